use Rattle.std.proofs.Common.{ℕ, ◌≡◌, ◌∙◌, ap, List}
use Rattle.std.specs.Prelude.{bytes_eq}
use Rattle.cil_semantics.specs.Words.{any}
use Rattle.run_members.proofs.ClassLaws.{among_classes}
use Rattle.run_members.proofs.classes.is_core_class.Goals as goal

pub returns : goal.returns
returns c = c.is_among.ensures ∙ ap (any (λ (it : List ℕ). bytes_eq it c.args.name.now)) c.class_names.ensures ∙ among_classes c.args.name.now
