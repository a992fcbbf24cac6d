use Rattle.std.proofs.Common.{◌∙◌, ap}
use Rattle.cli_heaps.specs.Root.{bytes_of, offset_of}
use Rattle.cli_heaps.proofs.RootLaws.{roots}
use Rattle.cli_heaps.proofs.heaps.Heaps.read.Goals as goal

pub returns-in-Some-clause-refused : goal.returns-in-Some-clause-refused
returns-in-Some-clause-refused c = rw (← c.in-Some.ensures) at (roots c.args.meta.now c.args.assembly)

pub returns-clause-accepted : goal.returns-clause-accepted
returns-clause-accepted c = rw (← c.in_default.ensures) at (roots c.args.meta.now c.args.assembly)

pub invariant_of-result : goal.invariant_of-result
invariant_of-result c = record {
  accepted = rw (← c.in_default.ensures) at (roots c.args.meta.now c.args.assembly);
  short = c.requires;
  strings_are = c.bytes_named-strings.ensures;
  blobs_are = c.bytes_named.ensures;
  user_strings_are = c.bytes_named-2.ensures;
  guids_are = c.bytes_named-3.ensures;
  tables_are = c.bytes_of.ensures ∙ ap (bytes_of c.args.meta.now) c.find_stream-tables.ensures;
  offset_is = c.offset_of.ensures ∙ ap offset_of c.find_stream-tables.ensures;
  end_is = c.strings_end.ensures;
}
