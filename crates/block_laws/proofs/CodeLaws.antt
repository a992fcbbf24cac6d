-- The code and the clauses of a tree to which one more clause is added.
use Rattle.std.proofs.Common.{◌≡◌, List, [], ◌∷◌, ◌++◌, map, refl, sym, ap, ◌∙◌, append-nil, append_assoc}
use Rattle.cil_model.specs.declared.body.Instr.{Instr}
use Rattle.cil_model.specs.declared.body.RegionKind.{RegionKind}
use Rattle.cil_model.specs.declared.tree.Block.{Block}
use Rattle.cil_model.specs.declared.tree.Block.TheVariants.{Guarded, rolls-Guarded}
use Rattle.cil_model.specs.declared.tree.Block.TheOpen.{Block-F}
use Rattle.cil_model.specs.declared.tree.Block.TheFolds.{fold-Handler, fold-roll-Block, fold_out-Handler}
use Rattle.cil_model.specs.declared.tree.Handler.{Handler}
use Rattle.region_tree.specs.Trees.{Part, HandlerPart, block_part, code, handler_part, handler_parts, handlers_code, part}

abbrev pub handler_parted : Handler → HandlerPart
handler_parted h = fold-Handler Part HandlerPart block_part handler_part h

abbrev pub part_of : Handler → Part
part_of h = (handler_parted h).part

abbrev pub all_code : List Handler → List Instr
all_code hs = handlers_code (handler_parts hs)

abbrev pub handler_of : RegionKind → List Block → Handler
handler_of kind own = record { kind = kind; blocks = own }

pub code_joined : (xs ys : List Block) → code (xs ++ ys) ≡ code xs ++ code ys
code_joined [] ys = refl
code_joined (x ∷ xs) ys = ap (λ l. (part x).code ++ l) (code_joined xs ys) ∙ sym (append_assoc (part x).code (code xs) (code ys))

pub handlers_joined : (xs ys : List Handler) → all_code (xs ++ ys) ≡ all_code xs ++ all_code ys
handlers_joined [] ys = refl
handlers_joined (x ∷ xs) ys = ap (λ l. (part_of x).code ++ l) (handlers_joined xs ys) ∙ sym (append_assoc (part_of x).code (all_code xs) (all_code ys))

pub guarded_part : (inner : List Block) (hs : List Handler) → part (Guarded inner hs) ≡ block_part (Block-F.Guarded (map part inner) (handler_parts hs))
guarded_part inner hs = ap part (sym (rolls-Guarded inner hs)) ∙ fold-roll-Block Part HandlerPart block_part handler_part (Block-F.Guarded inner hs)

handler_code : (kind : RegionKind) (own : List Block) → (part_of (handler_of kind own)).code ≡ code own
handler_code kind own = ap (λ (p : HandlerPart). p.part.code) (fold_out-Handler Part HandlerPart block_part handler_part (handler_of kind own))

pub one_more_code : (kind : RegionKind) (own : List Block) (hs : List Handler) → all_code (hs ++ handler_of kind own ∷ []) ≡ all_code hs ++ code own
one_more_code kind own hs = handlers_joined hs (handler_of kind own ∷ []) ∙ ap (λ l. all_code hs ++ l) (append-nil (part_of (handler_of kind own)).code ∙ handler_code kind own)

tail_code : (kind : RegionKind) (inner own back : List Block) (hs : List Handler) → (part (Guarded inner (hs ++ handler_of kind own ∷ []))).code ++ code back ≡ (part (Guarded inner hs)).code ++ code (own ++ back)
tail_code kind inner own back hs =
    ap (λ (p : Part). p.code ++ code back) (guarded_part inner (hs ++ handler_of kind own ∷ []))
    ∙ ap (λ l. (code inner ++ l) ++ code back) (one_more_code kind own hs)
    ∙ ap (λ l. l ++ code back) (sym (append_assoc (code inner) (all_code hs) (code own)))
    ∙ append_assoc (code inner ++ all_code hs) (code own) (code back)
    ∙ ap (λ l. (code inner ++ all_code hs) ++ l) (sym (code_joined own back))
    ∙ ap (λ (p : Part). p.code ++ code (own ++ back)) (sym (guarded_part inner hs))

pub another_keeps_code : (kind : RegionKind) (front inner own back : List Block) (hs : List Handler) → code (front ++ Guarded inner (hs ++ record { kind = kind; blocks = own } ∷ []) ∷ back) ≡ code (front ++ Guarded inner hs ∷ (own ++ back))
another_keeps_code kind front inner own back hs =
    code_joined front (Guarded inner (hs ++ handler_of kind own ∷ []) ∷ back)
    ∙ ap (λ l. code front ++ l) (tail_code kind inner own back hs)
    ∙ sym (code_joined front (Guarded inner hs ∷ (own ++ back)))

no_handler_code : (inner back : List Block) → (part (Guarded inner [])).code ++ code back ≡ code (inner ++ back)
no_handler_code inner back =
    ap (λ (p : Part). p.code ++ code back) (guarded_part inner []) ∙ ap (λ l. l ++ code back) (append-nil (code inner)) ∙ sym (code_joined inner back)

pub first_keeps_code : (kind : RegionKind) (front inner own back : List Block) → code (front ++ Guarded inner (record { kind = kind; blocks = own } ∷ []) ∷ back) ≡ code (front ++ (inner ++ (own ++ back)))
first_keeps_code kind front inner own back =
    another_keeps_code kind front inner own back []
    ∙ code_joined front (Guarded inner [] ∷ (own ++ back))
    ∙ ap (λ l. code front ++ l) (no_handler_code inner (own ++ back))
    ∙ sym (code_joined front (inner ++ (own ++ back)))
