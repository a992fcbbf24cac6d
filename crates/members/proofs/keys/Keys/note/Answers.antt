use Rattle.std.proofs.Common.{◌≡◌, ◌∙◌, sym, ap, ◌++◌, ◌∷◌, [], ℕ, List, eqb, false}
use Rattle.std.specs.Prelude.{Vec, is_some, None}
use Rattle.std.specs.Map.{lookup}
use Rattle.std.specs.Cmp.Lexicographic.{pointwise}
use Rattle.std.specs.declared.alloc.Global.{Global}
use Rattle.indexmap.proofs.CallerLemmas.{insert_entry-new}
use Rattle.set_names.specs.Names.{Noted, number_under, noted, contents_of}
use Rattle.set_names.proofs.NameLaws.{contents_found, contents-append, noted-new, none_of}
use Rattle.members.proofs.keys.Keys.note.Goals as goal

pub returns-clause-ok : goal.returns-clause-ok
returns-clause-ok c =
    let old : Noted = contents_of c.self.inside.numbers.entries in
    let unknown : is_some (number_under old c.args.key.now) ≡ false =
    ap (λ (es : Noted). is_some (number_under es c.args.key.now)) c.self.view_is ∙ ap is_some (sym c.number.ensures) ∙ sym c.is_some.ensures ∙ c.if-is_some.false in
    let absent : lookup (λ (k : Vec ℕ Global). pointwise eqb c.in_ok-key.key.items k.items) c.self.inside.numbers.entries ≡ None =
    contents_found c.in_ok-key.key.items c.self.inside.numbers.entries
    ∙ ap (λ (l : List ℕ). number_under old l) c.in_ok-key.ensures.items
    ∙ none_of (number_under old c.args.key.now) unknown in
    let entries : contents_of c.insert.new.self.entries ≡ old ++ (c.in_ok-key.key.items, c.args.number) ∷ [] =
    ap contents_of (c.in_ok-insert.ensures.entries ∙ insert_entry-new (λ (x y : Vec ℕ Global). pointwise eqb x.items y.items) c.self.inside.numbers c.in_ok-key.key c.args.number absent)
    ∙ contents-append c.self.inside.numbers.entries c.in_ok-key.key c.args.number in
    entries
    ∙ ap (λ (l : List ℕ). old ++ (l, c.args.number) ∷ []) c.in_ok-key.ensures.items
    ∙ sym (noted-new old c.args.key.now c.args.number unknown)
    ∙ ap (λ (es : Noted). noted es c.args.key.now c.args.number) c.self.view_is
