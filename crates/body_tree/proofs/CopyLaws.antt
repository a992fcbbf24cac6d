-- Copies of blocks, one behind another.
use Rattle.std.proofs.Common.{◌≡◌, ◌+◌, ◌<◌, ℕ, Option, List, [], ◌∷◌, ◌++◌, length, take, get_or, refl, sym, ap, ◌∙◌, append_assoc, append-nil, map, length-append, arith}
use Rattle.std.proofs.lemmas.List.{take_more}
use Rattle.cil_model.specs.declared.body.Instr.{Instr}
use Rattle.cil_model.specs.declared.body.Region.{Region}
use Rattle.cil_model.specs.declared.body.RegionKind.{RegionKind}
use Rattle.cil_model.specs.declared.tree.Block.{Block}
use Rattle.cil_model.specs.declared.tree.Block.TheVariants.{Code, Guarded, rolls-Code}
use Rattle.cil_model.specs.declared.tree.Block.TheOpen.{Block-F}
use Rattle.cil_model.specs.declared.tree.Block.TheFolds.{fold-Handler, fold-roll-Block}
use Rattle.cil_model.specs.declared.tree.Handler.{Handler}
use Rattle.region_tree.specs.Trees.{Part, HandlerPart, block_part, handler_part, part, clauses, code, handler_parts, handlers_clauses, handlers_code, own_clauses}
use Rattle.region_tree.proofs.PartLaws.{handler_is}
use Rattle.body_tree.specs.Copies.{turned, AddsCopies, AddsHandlers, IsCopy}
use Rattle.body_tree.proofs.TableLaws.{is_guarded}

abbrev handler_parted : Handler → HandlerPart
handler_parted h = fold-Handler Part HandlerPart block_part handler_part h

abbrev part_of : Handler → Part
part_of h = (handler_parted h).part

pub map_joined : {A B : Type 0} (f : A → B) (xs ys : List A) → map f (xs ++ ys) ≡ map f xs ++ map f ys
map_joined f [] ys = refl
map_joined f (x ∷ xs) ys = ap (λ l. f x ∷ l) (map_joined f xs ys)

pub map_length : {A B : Type 0} (f : A → B) (xs : List A) → length (map f xs) ≡ length xs
map_length f [] = refl
map_length f (x ∷ xs) = omega (arith, map_length f xs)

pub code_joined : (xs ys : List Block) → code (xs ++ ys) ≡ code xs ++ code ys
code_joined [] ys = refl
code_joined (x ∷ xs) ys = ap (λ l. (part x).code ++ l) (code_joined xs ys) ∙ sym (append_assoc (part x).code (code xs) (code ys))

pub clauses_joined : (xs ys : List Block) (q : ℕ) → clauses q (xs ++ ys) ≡ clauses q xs ++ clauses (q + length (code xs)) ys
clauses_joined [] ys q = ap (λ (n : ℕ). clauses n ys) (omega arith)
clauses_joined (x ∷ xs) ys q =
    let long : q + length (part x).code + length (code xs) ≡ q + length (code (x ∷ xs)) = omega (arith, length-append (part x).code (code xs)) in
    ap (λ l. (part x).clauses q ++ l) (clauses_joined xs ys (q + length (part x).code))
    ∙ sym (append_assoc ((part x).clauses q) (clauses (q + length (part x).code) xs) (clauses (q + length (part x).code + length (code xs)) ys))
    ∙ ap (λ (n : ℕ). clauses q (x ∷ xs) ++ clauses n ys) long

-- ---- blocks

pub code_part : (is : List Instr) → part (Code is) ≡ block_part (Block-F.Code is)
code_part is = ap part (sym (rolls-Code is)) ∙ fold-roll-Block Part HandlerPart block_part handler_part (Block-F.Code is)

pub copied_code : (exit : Option ℕ) (b : Block) (is from copies : List Instr) → b ≡ Code is → from ≡ is → copies ≡ map (turned exit) from → IsCopy exit b (Code copies)
copied_code exit b is from copies e f c =
    let old : part b ≡ block_part (Block-F.Code is) = ap part e ∙ code_part is in
    record {
      instrs = ap (λ (p : Part). p.code) (code_part copies) ∙ c ∙ ap (map (turned exit)) f ∙ sym (ap (λ (p : Part). map (turned exit) p.code) old);
      regions = λ q. ap (λ (p : Part). p.clauses q) (code_part copies) ∙ sym (ap (λ (p : Part). p.clauses q) old);
    }

pub copied_guarded : (exit : Option ℕ) (b : Block) (inner front blocks : List Block) (hs back own : List Handler) → b ≡ Guarded inner hs → front ≡ inner → back ≡ hs → AddsCopies exit [] front blocks → AddsHandlers exit [] back own → IsCopy exit b (Guarded blocks own)
copied_guarded exit b inner front blocks hs back own e f k c h =
    let old = is_guarded b inner hs e in
    let new = is_guarded (Guarded blocks own) blocks own refl in
    let inner_code : code blocks ≡ map (turned exit) (code inner) = c.instrs ∙ ap (λ (bs : List Block). map (turned exit) (code bs)) f in
    let own_code : handlers_code (handler_parts own) ≡ map (turned exit) (handlers_code (handler_parts hs)) = h.instrs ∙ ap (λ (l : List Handler). map (turned exit) (handlers_code (handler_parts l))) k in
    let size : length (code blocks) ≡ length (code inner) = ap length inner_code ∙ map_length (turned exit) (code inner) in
    let plain : (x : ℕ) → x + 0 ≡ x = λ x. omega arith in
    record {
      instrs = ap (λ (p : Part). p.code) new ∙ ap (λ l. l ++ handlers_code (handler_parts own)) inner_code ∙ ap (λ l. map (turned exit) (code inner) ++ l) own_code ∙ sym (map_joined (turned exit) (code inner) (handlers_code (handler_parts hs))) ∙ sym (ap (λ (p : Part). map (turned exit) p.code) old);
      regions = λ q.
          let behind : ℕ → List Region = λ x. handlers_clauses x (handler_parts own) ++ own_clauses q x x (handler_parts own) in
          ap (λ (p : Part). p.clauses q) new
          ∙ ap (λ (l : List Region). l ++ behind (q + length (code blocks))) (c.regions q ∙ ap (λ (x : ℕ). clauses x front) (plain q) ∙ ap (clauses q) f)
          ∙ ap (λ (x : ℕ). clauses q inner ++ behind (q + x)) size
          ∙ ap (λ (l : List Region). clauses q inner ++ (l ++ own_clauses q (q + length (code inner)) (q + length (code inner)) (handler_parts own))) (h.regions (q + length (code inner)) ∙ ap (λ (x : ℕ). handlers_clauses x (handler_parts back)) (plain (q + length (code inner))) ∙ ap (λ (l : List Handler). handlers_clauses (q + length (code inner)) (handler_parts l)) k)
          ∙ ap (λ (l : List Region). clauses q inner ++ (handlers_clauses (q + length (code inner)) (handler_parts hs) ++ l)) (h.own q (q + length (code inner)) (q + length (code inner)) ∙ ap (λ (x : ℕ). own_clauses q (q + length (code inner)) x (handler_parts back)) (plain (q + length (code inner))) ∙ ap (λ (l : List Handler). own_clauses q (q + length (code inner)) (q + length (code inner)) (handler_parts l)) k)
          ∙ sym (ap (λ (p : Part). p.clauses q) old);
    }

pub no_copies : (exit : Option ℕ) (old : List Block) → AddsCopies exit old [] old
no_copies exit old = record { instrs = sym (append-nil (code old)); regions = λ q. sym (append-nil (clauses q old)) }

pub one_more : (exit : Option ℕ) (old bs out new : List Block) (b copy : Block) → AddsCopies exit old bs out → IsCopy exit b copy → new ≡ out ++ copy ∷ [] → AddsCopies exit old (bs ++ b ∷ []) new
one_more exit old bs out new b copy adds is n = record {
  instrs = ap code n ∙ code_joined out (copy ∷ []) ∙ ap (λ l. l ++ code (copy ∷ [])) adds.instrs ∙ append_assoc (code old) (map (turned exit) (code bs)) (code (copy ∷ []))
      ∙ ap (λ l. code old ++ (map (turned exit) (code bs) ++ l)) (append-nil (part copy).code ∙ is.instrs ∙ ap (map (turned exit)) (sym (append-nil (part b).code)))
      ∙ ap (λ l. code old ++ l) (sym (map_joined (turned exit) (code bs) (code (b ∷ []))) ∙ ap (map (turned exit)) (sym (code_joined bs (b ∷ []))));
  regions = λ q.
      let size : q + length (code out) ≡ q + length (code old) + length (code bs) = omega (arith, ap length adds.instrs, length-append (code old) (map (turned exit) (code bs)), map_length (turned exit) (code bs)) in
      ap (clauses q) n ∙ clauses_joined out (copy ∷ []) q
      ∙ ap (λ (l : List Region). l ++ clauses (q + length (code out)) (copy ∷ [])) (adds.regions q)
      ∙ ap (λ (x : ℕ). (clauses q old ++ clauses (q + length (code old)) bs) ++ clauses x (copy ∷ [])) size
      ∙ append_assoc (clauses q old) (clauses (q + length (code old)) bs) _
      ∙ ap (λ (l : List Region). clauses q old ++ (clauses (q + length (code old)) bs ++ (l ++ []))) (is.regions (q + length (code old) + length (code bs)))
      ∙ ap (λ (l : List Region). clauses q old ++ l) (sym (clauses_joined bs (b ∷ []) (q + length (code old))));
}

pub copies_more : (exit : Option ℕ) (old bs out new : List Block) (k : ℕ) (d copy : Block) → k < length bs → AddsCopies exit old (take k bs) out → IsCopy exit (get_or bs k d) copy → new ≡ out ++ copy ∷ [] → AddsCopies exit old (take (k + 1) bs) new
copies_more exit old bs out new k d copy h adds is n = rw (take_more bs k d h) (one_more exit old (take k bs) out new (get_or bs k d) copy adds is n)

-- ---- handlers

handlers_joined : (xs ys : List Handler) → handlers_code (handler_parts (xs ++ ys)) ≡ handlers_code (handler_parts xs) ++ handlers_code (handler_parts ys)
handlers_joined [] ys = refl
handlers_joined (x ∷ xs) ys =
    ap (λ l. (part_of x).code ++ l) (handlers_joined xs ys) ∙ sym (append_assoc (part_of x).code (handlers_code (handler_parts xs)) (handlers_code (handler_parts ys)))

inner_joined : (xs ys : List Handler) (q : ℕ) → handlers_clauses q (handler_parts (xs ++ ys)) ≡ handlers_clauses q (handler_parts xs) ++ handlers_clauses (q + length (handlers_code (handler_parts xs))) (handler_parts ys)
inner_joined [] ys q = ap (λ (n : ℕ). handlers_clauses n (handler_parts ys)) (omega arith)
inner_joined (x ∷ xs) ys q =
    let long : q + length (part_of x).code + length (handlers_code (handler_parts xs)) ≡ q + length (handlers_code (handler_parts (x ∷ xs))) = omega (arith, length-append (part_of x).code (handlers_code (handler_parts xs))) in
    ap (λ l. (part_of x).clauses q ++ l) (inner_joined xs ys (q + length (part_of x).code))
    ∙ sym (append_assoc ((part_of x).clauses q) (handlers_clauses (q + length (part_of x).code) (handler_parts xs)) (handlers_clauses (q + length (part_of x).code + length (handlers_code (handler_parts xs))) (handler_parts ys)))
    ∙ ap (λ (n : ℕ). handlers_clauses q (handler_parts (x ∷ xs)) ++ handlers_clauses n (handler_parts ys)) long

own_joined : (xs ys : List Handler) (from to q : ℕ) → own_clauses from to q (handler_parts (xs ++ ys)) ≡ own_clauses from to q (handler_parts xs) ++ own_clauses from to (q + length (handlers_code (handler_parts xs))) (handler_parts ys)
own_joined [] ys from to q = ap (λ (n : ℕ). own_clauses from to n (handler_parts ys)) (omega arith)
own_joined (x ∷ xs) ys from to q =
    let long : q + length (part_of x).code + length (handlers_code (handler_parts xs)) ≡ q + length (handlers_code (handler_parts (x ∷ xs))) = omega (arith, length-append (part_of x).code (handlers_code (handler_parts xs))) in
    let r : Region = record { kind = (handler_parted x).kind; try_from = from; try_to = to; handler_from = q; handler_to = q + length (part_of x).code } in
    ap (λ l. r ∷ l) (own_joined xs ys from to (q + length (part_of x).code))
    ∙ ap (λ (n : ℕ). own_clauses from to q (handler_parts (x ∷ xs)) ++ own_clauses from to n (handler_parts ys)) long

pub no_handlers : (exit : Option ℕ) (old : List Handler) → AddsHandlers exit old [] old
no_handlers exit old = record {
  instrs = sym (append-nil (handlers_code (handler_parts old)));
  regions = λ q. sym (append-nil (handlers_clauses q (handler_parts old)));
  own = λ from to q. sym (append-nil (own_clauses from to q (handler_parts old)));
}

-- a handler's kind, with copies of its blocks
pub one_handler : (exit : Option ℕ) (h : Handler) (k : RegionKind) (front blocks : List Block) → k ≡ h.kind → front ≡ h.blocks → AddsCopies exit [] front blocks → AddsHandlers exit [] (h ∷ []) (record { kind = k; blocks = blocks } ∷ [])
one_handler exit h k front blocks e f c =
    let copy : Handler = record { kind = k; blocks = blocks } in
    let plain : (x : ℕ) → x + 0 ≡ x = λ x. omega arith in
    let inner_code : code blocks ≡ map (turned exit) (code h.blocks) = c.instrs ∙ ap (λ (bs : List Block). map (turned exit) (code bs)) f in
    let size : length (code blocks) ≡ length (code h.blocks) = ap length inner_code ∙ map_length (turned exit) (code h.blocks) in
    record {
      instrs = ap (λ (p : HandlerPart). p.part.code ++ []) (handler_is copy) ∙ append-nil (code blocks) ∙ inner_code ∙ ap (map (turned exit)) (sym (ap (λ (p : HandlerPart). p.part.code ++ []) (handler_is h) ∙ append-nil (code h.blocks)));
      regions = λ q.
          ap (λ (p : HandlerPart). p.part.clauses q ++ []) (handler_is copy)
          ∙ ap (λ (l : List Region). l ++ []) (c.regions q ∙ ap (λ (x : ℕ). clauses x front) (plain q) ∙ ap (clauses q) f ∙ ap (λ (x : ℕ). clauses x h.blocks) (sym (plain q)))
          ∙ sym (ap (λ (p : HandlerPart). p.part.clauses (q + 0) ++ []) (handler_is h));
      own = λ from to q.
          ap (λ (p : HandlerPart). own_clauses from to q (p ∷ [])) (handler_is copy)
          ∙ ap (λ (x : ℕ). record { kind = k; try_from = from; try_to = to; handler_from = q; handler_to = q + x } ∷ []) size
          ∙ ap (λ (x : RegionKind). record { kind = x; try_from = from; try_to = to; handler_from = q; handler_to = q + length (code h.blocks) } ∷ []) e
          ∙ ap (λ (x : ℕ). record { kind = h.kind; try_from = from; try_to = to; handler_from = x; handler_to = x + length (code h.blocks) } ∷ []) (sym (plain q))
          ∙ sym (ap (λ (p : HandlerPart). own_clauses from to (q + 0) (p ∷ [])) (handler_is h));
    }

handler_added : (exit : Option ℕ) (old hs out new : List Handler) (h copy : Handler) → AddsHandlers exit old hs out → AddsHandlers exit [] (h ∷ []) (copy ∷ []) → new ≡ out ++ copy ∷ [] → AddsHandlers exit old (hs ++ h ∷ []) new
handler_added exit old hs out new h copy adds is n =
    let plain : (x : ℕ) → x + 0 ≡ x = λ x. omega arith in
    let size : length (handlers_code (handler_parts out)) ≡ length (handlers_code (handler_parts old)) + length (handlers_code (handler_parts hs)) = omega (arith, ap length adds.instrs, length-append (handlers_code (handler_parts old)) (map (turned exit) (handlers_code (handler_parts hs))), map_length (turned exit) (handlers_code (handler_parts hs))) in
    let behind : (q : ℕ) → q + length (handlers_code (handler_parts out)) ≡ q + length (handlers_code (handler_parts old)) + length (handlers_code (handler_parts hs)) = λ q. omega (arith, size) in
    record {
      instrs = ap (λ l. handlers_code (handler_parts l)) n ∙ handlers_joined out (copy ∷ []) ∙ ap (λ l. l ++ handlers_code (handler_parts (copy ∷ []))) adds.instrs ∙ append_assoc (handlers_code (handler_parts old)) _ _
          ∙ ap (λ l. handlers_code (handler_parts old) ++ (map (turned exit) (handlers_code (handler_parts hs)) ++ l)) is.instrs
          ∙ ap (λ l. handlers_code (handler_parts old) ++ l) (sym (map_joined (turned exit) (handlers_code (handler_parts hs)) (handlers_code (handler_parts (h ∷ [])))) ∙ ap (map (turned exit)) (sym (handlers_joined hs (h ∷ []))));
      regions = λ q.
          ap (λ l. handlers_clauses q (handler_parts l)) n ∙ inner_joined out (copy ∷ []) q
          ∙ ap (λ (l : List Region). l ++ handlers_clauses (q + length (handlers_code (handler_parts out))) (handler_parts (copy ∷ []))) (adds.regions q)
          ∙ ap (λ (x : ℕ). (handlers_clauses q (handler_parts old) ++ handlers_clauses (q + length (handlers_code (handler_parts old))) (handler_parts hs)) ++ handlers_clauses x (handler_parts (copy ∷ []))) (behind q)
          ∙ append_assoc (handlers_clauses q (handler_parts old)) _ _
          ∙ ap (λ (l : List Region). handlers_clauses q (handler_parts old) ++ (handlers_clauses (q + length (handlers_code (handler_parts old))) (handler_parts hs) ++ l)) (is.regions (q + length (handlers_code (handler_parts old)) + length (handlers_code (handler_parts hs))) ∙ ap (λ (x : ℕ). handlers_clauses x (handler_parts (h ∷ []))) (plain (q + length (handlers_code (handler_parts old)) + length (handlers_code (handler_parts hs)))))
          ∙ ap (λ (l : List Region). handlers_clauses q (handler_parts old) ++ l) (sym (inner_joined hs (h ∷ []) (q + length (handlers_code (handler_parts old)))));
      own = λ from to q.
          ap (λ l. own_clauses from to q (handler_parts l)) n ∙ own_joined out (copy ∷ []) from to q
          ∙ ap (λ (l : List Region). l ++ own_clauses from to (q + length (handlers_code (handler_parts out))) (handler_parts (copy ∷ []))) (adds.own from to q)
          ∙ ap (λ (x : ℕ). (own_clauses from to q (handler_parts old) ++ own_clauses from to (q + length (handlers_code (handler_parts old))) (handler_parts hs)) ++ own_clauses from to x (handler_parts (copy ∷ []))) (behind q)
          ∙ append_assoc (own_clauses from to q (handler_parts old)) _ _
          ∙ ap (λ (l : List Region). own_clauses from to q (handler_parts old) ++ (own_clauses from to (q + length (handlers_code (handler_parts old))) (handler_parts hs) ++ l)) (is.own from to (q + length (handlers_code (handler_parts old)) + length (handlers_code (handler_parts hs))) ∙ ap (λ (x : ℕ). own_clauses from to x (handler_parts (h ∷ []))) (plain (q + length (handlers_code (handler_parts old)) + length (handlers_code (handler_parts hs)))))
          ∙ ap (λ (l : List Region). own_clauses from to q (handler_parts old) ++ l) (sym (own_joined hs (h ∷ []) from to (q + length (handlers_code (handler_parts old)))));
    }

pub handlers_more : (exit : Option ℕ) (old hs out new : List Handler) (k : ℕ) (d copy : Handler) → k < length hs → AddsHandlers exit old (take k hs) out → AddsHandlers exit [] (get_or hs k d ∷ []) (copy ∷ []) → new ≡ out ++ copy ∷ [] → AddsHandlers exit old (take (k + 1) hs) new
handlers_more exit old hs out new k d copy h adds is n = rw (take_more hs k d h) (handler_added exit old (take k hs) out new (get_or hs k d) copy adds is n)
