use Rattle.std.proofs.Common.{◌∙◌, sym, ap, List, slice_get, length, refl}
use Rattle.std.proofs.lemmas.Option.{slice_get_read}
use Rattle.pe_image.specs.Images.{File}
use Rattle.set_program.proofs.FileLaws.{tables_at}
use Rattle.set_program.proofs.set.Set.tables.Goals as goal

pub returns-in-Some : goal.returns-in-Some
returns-in-Some c =
    c.tables.ensures.value
    ∙ tables_at c.self.inside.assemblies.items c.args.self.now c.args.assembly c.in-Some.assembly.now c.self.view_is
    (ap (λ (l : List File). slice_get l c.args.assembly) (sym c.deref.ensures.value) ∙ slice_get_read c.deref.result.now (length c.deref.result.now) c.args.assembly c.in-Some.assembly.now refl c.in-Some.ensures.lookup.3.0 c.in-Some.ensures.lookup.1)
