-- The answers of a command, put together from its steps.
use Rattle.std.proofs.Common.{◌≡◌, ◌⊎◌, ℕ, ◌<◌, ◌≤◌, List, [], ◌∷◌, length, Bool, Option, Some, None, Result, Ok, Err, IsTrue, IfOk, IsOkAnd, true, false, arith, refl, sym, ap, ◌∙◌, subst, inl, inr}
use Rattle.std.specs.declared.alloc.AllocError.{AllocError}
use Rattle.std.specs.Prelude.{nat_lt, codes, if◌then◌else◌}
use Rattle.std.specs.Str.{bytes_eq}
use Rattle.std.proofs.lemmas.Bool.{lt-ltb, ltb-true}
use Rattle.cil_base.specs.declared.limits.TheConstants.{ASSEMBLY_LIMIT}
use Rattle.cil_base.specs.Causes.{Rose}
use Rattle.cil_base.specs.declared.refusal.Refusal.{Refusal}
use Rattle.outside_core.specs.Store.{Files, SameFiles}
use Rattle.command_line.specs.Text.{refusal_text, words_text, store_text, memory_text}
use Rattle.command_line.specs.declared.words.Command.{Command}
use Rattle.command_line.specs.declared.words.Command.TheVariants as commands
use Rattle.command_line.specs.Words.{wrong_word, IsCommand}
use Rattle.command_line.specs.Options.{positionals}
use Rattle.program.specs.declared.program.Reply.{Reply}
use Rattle.program.specs.Replies.{Replied}
use Rattle.program.specs.Layers.{IsInnerRefusal, KeepsInnerRules}
use Rattle.program.specs.Reading.{Reading, Whole, Missing, Passes, reading, read_from, too_many, IsNamed}
use Rattle.program.specs.Program.{IsMade, IsRefusal, PutsFile, Leaves, FromBytes, FileAnswer, WrongAnswer, Answer, Puts, Expected}
use Rattle.program.proofs.LayerLaws.{one_refusal}

-- What is known of a reply, and of want of memory.
pub replied_by : (P : ℕ → List ℕ → Type 0) (result : Result Reply AllocError) → IfOk result (λ a. P a.status a.text) → P 5 memory_text → Replied P result
replied_by P (Ok a) h m = h
replied_by P (Err e) h m = m

pub replied_weaker : (P Q : ℕ → List ℕ → Type 0) (result : Result Reply AllocError) → ((status : ℕ) (text : List ℕ) → P status text → Q status text) → Replied P result → Replied Q result
replied_weaker P Q (Ok a) f h = f a.status a.text h
replied_weaker P Q (Err e) f h = f 5 memory_text h

-- ---- from the bytes

pub no_memory : (command : Command) (tells : Bool) (old new : Files) (before now : ℕ) (set : List (List ℕ)) (output : Option (List ℕ)) → (IsTrue tells → SameFiles old new) → FromBytes command tells old new before now set output 5 memory_text
no_memory command tells old new before now set output same = record {
  done = λ e. absurd cc;
  refused = λ e. absurd cc;
  failed = λ e. absurd cc;
  memory = λ e. refl;
  kept = λ n. same;
  only = inr (inr (inr refl));
}

pub bytes_refused : (command : Command) (tells : Bool) (old : Files) (before : ℕ) (set : List (List ℕ)) (output : Option (List ℕ)) (r : Refusal) (status : ℕ) (text : List ℕ) → IsInnerRefusal command set r → (status ≡ 1) × (text ≡ refusal_text r) → FromBytes command tells old old before before set output status text
bytes_refused command tells old before set output r status text h e = record {
  done = λ z. let c : 1 ≡ 0 = sym e.0 ∙ z in absurd cc;
  refused = λ z. (refl, (r, h, e.1));
  failed = λ z. let c : 1 ≡ 3 = sym e.0 ∙ z in absurd cc;
  memory = λ z. let c : 1 ≡ 5 = sym e.0 ∙ z in absurd cc;
  kept = λ n t name. refl;
  only = inr (inl e.0);
}

-- ---- from the read

-- few names are read one after another
pub few_read : (files : Files) (names : List (List ℕ)) → length names ≤ ASSEMBLY_LIMIT → reading files names ≡ read_from files 0 0 names
few_read files names l = go (nat_lt ASSEMBLY_LIMIT (length names)) refl
  where
    go : (b : Bool) → nat_lt ASSEMBLY_LIMIT (length names) ≡ b → (if b then Passes too_many else read_from files 0 0 names) ≡ read_from files 0 0 names
    go true e = absurd (omega (arith, l, ltb-true ASSEMBLY_LIMIT (length names) e))
    go false e = refl

pub many_refused : (files : Files) (names : List (List ℕ)) → ASSEMBLY_LIMIT < length names → reading files names ≡ Passes too_many
many_refused files names l = ap (λ (b : Bool). if b then Passes too_many else read_from files 0 0 names) (lt-ltb ASSEMBLY_LIMIT (length names) l)

-- what becomes of files that are as they were
left : (old mid new : Files) (output : Option (List ℕ)) (bytes : List ℕ) → SameFiles old mid → Leaves mid new output bytes → Leaves old new output bytes
left old mid new None bytes same h = λ name. h name ∙ same name
left old mid new (Some output) bytes same h = record { there = h.there; others = λ name n. h.others name n ∙ same name }

-- The store told what the inputs hold, and its files and count are as they were.
pub from_read : (command : Command) (tells tells' : Bool) (old mid new : Files) (before middle now : ℕ) (inputs set : List (List ℕ)) (output : Option (List ℕ)) (status : ℕ) (text : List ℕ) → tells' ≡ tells → SameFiles old mid → middle ≡ before → (IsTrue tells → reading old inputs ≡ Whole set) → FromBytes command tells' mid new middle now set output status text → FileAnswer command tells old new before now inputs output status text
from_read command tells tells' old mid new before middle now inputs set output status text t same m told f = record {
  done = λ z.
      let d = f.done z in (
        d.0 ∙ m,
        λ tt'. record {
          set = set;
          to = d.2.0;
          in_files = told tt';
          out_file = left old mid new output d.2.0 same (d.2.2 (t ∙ tt'));
          made = d.2.1;
          accepted = d.1;
        },
      );
  refused = λ z.
      let d = f.refused z in (
        d.0 ∙ m,
        λ tt'.
            let here = told tt' in
            let breaks : IsRefusal command (reading old inputs) d.1.0 = subst (λ (x : Reading). IsRefusal command x d.1.0) (sym here) d.1.1 in
            record { refusal = d.1.0; breaks = breaks; only = λ s h. one_refusal command (reading old inputs) d.1.0 s breaks h; prints = d.1.2 },
      );
  failed = λ z.
      let d = f.failed z in
      record { name = d.1.0; named = inr d.1.1; cause = inl (subst (λ n. Rose n now) m d.0); prints = d.1.2 };
  memory = f.memory;
  kept = λ n tt' name. f.kept n (t ∙ tt') name ∙ same name;
  only = f.only;
}

pub read_refused : (command : Command) (tells : Bool) (old new : Files) (before now : ℕ) (inputs : List (List ℕ)) (output : Option (List ℕ)) (limit : Refusal) (status : ℕ) (text : List ℕ) → now ≡ before → SameFiles old new → (IsTrue tells → reading old inputs ≡ Passes limit) → (status ≡ 1) × (text ≡ refusal_text limit) → FileAnswer command tells old new before now inputs output status text
read_refused command tells old new before now inputs output limit status text same files told e = record {
  done = λ z. let c : 1 ≡ 0 = sym e.0 ∙ z in absurd cc;
  refused = λ z. (
    same,
    λ t.
        let breaks : IsRefusal command (reading old inputs) limit = subst (λ (x : Reading). IsRefusal command x limit) (sym (told t)) refl in
        record { refusal = limit; breaks = breaks; only = λ s h. one_refusal command (reading old inputs) limit s breaks h; prints = e.1 },
  );
  failed = λ z. let c : 1 ≡ 3 = sym e.0 ∙ z in absurd cc;
  memory = λ z. let c : 1 ≡ 5 = sym e.0 ∙ z in absurd cc;
  kept = λ n t. files;
  only = inr (inl e.0);
}

pub read_failed : (command : Command) (tells : Bool) (old new : Files) (before now : ℕ) (inputs : List (List ℕ)) (output : Option (List ℕ)) (name : List ℕ) (status : ℕ) (text : List ℕ) → SameFiles old new → IsNamed inputs name → Rose before now ⊎ (IsTrue tells × (reading old inputs ≡ Missing name)) → (status ≡ 3) × (text ≡ store_text name) → FileAnswer command tells old new before now inputs output status text
read_failed command tells old new before now inputs output name status text files named cause e = record {
  done = λ z. let c : 3 ≡ 0 = sym e.0 ∙ z in absurd cc;
  refused = λ z. let c : 3 ≡ 1 = sym e.0 ∙ z in absurd cc;
  failed = λ z. record { name = name; named = inl named; cause = cause; prints = e.1 };
  memory = λ z. let c : 3 ≡ 5 = sym e.0 ∙ z in absurd cc;
  kept = λ n t. files;
  only = inr (inr (inl e.0));
}

pub file_memory : (command : Command) (tells : Bool) (old new : Files) (before now : ℕ) (inputs : List (List ℕ)) (output : Option (List ℕ)) → (IsTrue tells → SameFiles old new) → FileAnswer command tells old new before now inputs output 5 memory_text
file_memory command tells old new before now inputs output same = record {
  done = λ e. absurd cc;
  refused = λ e. absurd cc;
  failed = λ e. absurd cc;
  memory = λ e. refl;
  kept = λ n. same;
  only = inr (inr (inr refl));
}

-- ---- the words

pub wrong_said : (old : Files) (before place status : ℕ) (text : List ℕ) → (status ≡ 2) × (text ≡ words_text place) → WrongAnswer old old before before place status text
wrong_said old before place status text e = record {
  wrong = λ z. e.1;
  memory = λ z. let c : 2 ≡ 5 = sym e.0 ∙ z in absurd cc;
  kept = λ name. refl;
  count = refl;
  only = inl e.0;
}

pub wrong_memory : (old : Files) (before place : ℕ) → WrongAnswer old old before before place 5 memory_text
wrong_memory old before place = record {
  wrong = λ z. absurd cc;
  memory = λ z. refl;
  kept = λ name. refl;
  count = refl;
  only = inr refl;
}

-- ---- completeness

one_of : (status : ℕ) (P : ℕ → Type 0) → (status ≡ 0) ⊎ (status ≡ 1) ⊎ (status ≡ 3) ⊎ (status ≡ 5) → (status ≡ 0 → P 0) → (status ≡ 1 → P 1) → (status ≡ 3 → P 3) → (status ≡ 5 → P 5) → P status
one_of status P (inl e) a b c d = subst P (sym e) (a e)
one_of status P (inr (inl e)) a b c d = subst P (sym e) (b e)
one_of status P (inr (inr (inl e))) a b c d = subst P (sym e) (c e)
one_of status P (inr (inr (inr e))) a b c d = subst P (sym e) (d e)

pub expected_memory : (command : Command) (files : Reading) → Expected command files 5
expected_memory command (Whole set) = inr (inr refl)
expected_memory command (Missing name) = inr refl
expected_memory command (Passes limit) = inr refl

expected_refused : (command : Command) (files : Reading) (r : Refusal) → IsRefusal command files r → Expected command files 1
expected_refused command (Whole set) r h = inr (inl (refl, (r, h)))
expected_refused command (Missing name) r h = absurd h
expected_refused command (Passes limit) r h = inl refl

file_expected : (command : Command) (tells : Bool) (old new : Files) (before now : ℕ) (inputs : List (List ℕ)) (output : Option (List ℕ)) (status : ℕ) (text : List ℕ) → IsTrue tells → (Rose before now → ⊥) → FileAnswer command tells old new before now inputs output status text → Expected command (reading old inputs) status
file_expected command tells old new before now inputs output status text t calm b =
    one_of status (Expected command (reading old inputs)) b.only
    (λ z. let d = (b.done z).1 t in subst (λ (x : Reading). Expected command x 0) (sym d.in_files) (inl (refl, d.accepted)))
    (λ z. let d = (b.refused z).1 t in expected_refused command (reading old inputs) d.refusal d.breaks)
    (λ z. let f = b.failed z in missing f.name f.cause)
    (λ z. expected_memory command (reading old inputs))
  where
    missing : (name : List ℕ) → Rose before now ⊎ (IsTrue tells × (reading old inputs ≡ Missing name)) → Expected command (reading old inputs) 3
    missing name (inl rose) = absurd (calm rose)
    missing name (inr x) = subst (λ (y : Reading). Expected command y 3) (sym x.1) (inl refl)

-- whether the first word is this one, and the words behind it
abbrev begins : List ℕ → List (List ℕ) → Bool
begins name [] = false
begins name (w ∷ ws) = bytes_eq w name

abbrev behind_first : List (List ℕ) → List (List ℕ)
behind_first [] = []
behind_first (w ∷ ws) = ws

-- What is expected of a command's files is the same at all settings.
expected_alike : (words : List (List ℕ)) (c d : Command) (i : List (List ℕ)) (o : Option (List ℕ)) (j : List (List ℕ)) (p : Option (List ℕ)) (files : Files) (status : ℕ) → IsCommand words c i o → IsCommand words d j p → Expected c (reading files i) status → Expected d (reading files j) status
expected_alike words commands.Body commands.Body i (Some o) j (Some p) files status x y h =
    let e = sym x.is ∙ y.is in
    let same : x.input ≡ y.input = cc in
    let inputs : i ≡ j = x.inputs_are ∙ ap (λ (n : List ℕ). n ∷ []) same ∙ sym y.inputs_are in
    subst (λ (n : List (List ℕ)). Expected commands.Body (reading files n) status) inputs h
expected_alike words commands.Body (commands.Rewrite t) i (Some o) j (Some p) files status x y h =
    let e : true ≡ false = ap (begins (codes "body")) (sym x.is ∙ y.is) in absurd cc
expected_alike words commands.Body commands.List i (Some o) j None files status x y h =
    let e : true ≡ false = ap (begins (codes "body")) (sym x.is ∙ y.is) in absurd cc
expected_alike words (commands.Rewrite s) commands.Body i (Some o) j (Some p) files status x y h =
    let e : true ≡ false = ap (begins (codes "rewrite")) (sym x.is ∙ y.is) in absurd cc
expected_alike words (commands.Rewrite s) commands.List i (Some o) j None files status x y h =
    let e : true ≡ false = ap (begins (codes "rewrite")) (sym x.is ∙ y.is) in absurd cc
expected_alike words commands.List commands.Body i None j (Some p) files status x y h =
    let e : true ≡ false = ap (begins (codes "list")) (sym x.is ∙ y.is) in absurd cc
expected_alike words commands.List (commands.Rewrite t) i None j (Some p) files status x y h =
    let e : true ≡ false = ap (begins (codes "list")) (sym x.is ∙ y.is) in absurd cc
expected_alike words commands.List commands.List i None j None files status x y h =
    let inputs : i ≡ j = ap behind_first (sym x.is ∙ y.is) in
    subst (λ (n : List (List ℕ)). Expected commands.List (reading files n) status) inputs h
expected_alike words (commands.Rewrite s) (commands.Rewrite t) i (Some o) j (Some p) files status x y h =
    let e = sym x.is ∙ y.is in
    let behind : x.behind ≡ y.behind = cc in
    let inputs : i ≡ j = sym x.inputs_are ∙ ap positionals behind ∙ y.inputs_are in
    alike (reading files j) (subst (λ (n : List (List ℕ)). Expected (commands.Rewrite s) (reading files n) status) inputs h)
  where
    alike : (files : Reading) → Expected (commands.Rewrite s) files status → Expected (commands.Rewrite t) files status
    alike (Whole set) (inl x) = inl x
    alike (Whole set) (inr x) = inr x
    alike (Missing name) h = h
    alike (Passes limit) h = h
expected_alike words commands.Body d i None j p files status x y h = absurd x
expected_alike words (commands.Rewrite s) d i None j p files status x y h = absurd x
expected_alike words commands.List d i (Some o) j p files status x y h = absurd x
expected_alike words c commands.Body i o j None files status x y h = absurd y
expected_alike words c (commands.Rewrite t) i o j None files status x y h = absurd y
expected_alike words c commands.List i o j (Some p) files status x y h = absurd y

pub answer_expected : (tells : Bool) (old new : Files) (before now : ℕ) (words : List (List ℕ)) (status : ℕ) (text : List ℕ) (command : Command) (inputs : List (List ℕ)) (output : Option (List ℕ)) → IsCommand words command inputs output → IsTrue tells → (Rose before now → ⊥) → Answer tells old new before now words status text → Expected command (reading old inputs) status
answer_expected tells old new before now words status text command inputs output is t calm (inl x) =
    let e : Some x.0 ≡ None = sym x.1 ∙ right_words words command inputs output is in absurd cc
  where
    right_words : (words : List (List ℕ)) (command : Command) (inputs : List (List ℕ)) (output : Option (List ℕ)) → IsCommand words command inputs output → wrong_word words ≡ None
    right_words words commands.Body inputs None is = absurd is
    right_words words commands.Body inputs (Some output) is = is.right
    right_words words (commands.Rewrite settings) inputs None is = absurd is
    right_words words (commands.Rewrite settings) inputs (Some output) is = is.right
    right_words words commands.List inputs None is = is.right
    right_words words commands.List inputs (Some output) is = absurd is
answer_expected tells old new before now words status text command inputs output is t calm (inr x) =
    expected_alike words x.0 command x.1 x.2 inputs output old status x.3 is (file_expected x.0 tells old new before now x.1 x.2 status text t calm x.4)

-- a command has a file that it reads
pub some_inputs : (words : List (List ℕ)) (command : Command) (inputs : List (List ℕ)) (output : Option (List ℕ)) → IsCommand words command inputs output → 0 < length inputs
some_inputs words commands.Body inputs None is = absurd is
some_inputs words commands.Body inputs (Some output) is = let e : length inputs ≡ 1 = ap length is.inputs_are in omega (arith, e)
some_inputs words (commands.Rewrite settings) inputs None is = absurd is
some_inputs words (commands.Rewrite settings) inputs (Some output) is = is.target
some_inputs words commands.List inputs None is = is.target
some_inputs words commands.List inputs (Some output) is = absurd is

pub put_expected : (tells : Bool) (old new : List ℕ) (before now : ℕ) (room : Option ℕ) (text : List ℕ) (status result : ℕ) (command : Command) (o : Reading) → (Rose before now → ⊥) → Puts tells old new before now room text status result → Expected command o status → Expected command o result
put_expected tells old new before now room text status result command o calm puts h =
    subst (Expected command o) (sym (puts.whole (λ four. calm (puts.cut four).0)).0) h

-- ---- the write

-- What the write answers is what becomes of the bytes.
pub from_written : (command : Command) (tells : Bool) (old new : Files) (before now : ℕ) (set : List (List ℕ)) (output to made : List ℕ) (result : Result Reply AllocError)
    → IsMade command set to made → KeepsInnerRules command set
    → IfOk result (λ a. a.status ≡ 0 → (a.text ≡ made) × (now ≡ before) × (IsTrue tells → PutsFile old new output to))
    → IfOk result (λ a. a.status ≡ 3 → (a.text ≡ store_text output) × Rose before now)
    → IsOkAnd result (λ a. a.status ≡ 0) ⊎ (IsTrue tells → SameFiles old new)
    → IfOk result (λ a. (a.status ≡ 0) ⊎ (a.status ≡ 3))
    → Replied (FromBytes command tells old new before now set (Some output)) result
from_written command tells old new before now set output to made (Err e) is keeps done failed kept only = no_memory command tells old new before now set (Some output) (same_files kept)
  where
    same_files : ⊥ ⊎ (IsTrue tells → SameFiles old new) → IsTrue tells → SameFiles old new
    same_files (inl x) = absurd x
    same_files (inr s) = s
from_written command tells old new before now set output to made (Ok a) is keeps done failed kept only = record {
  done = λ z. let d = done z in (d.1, keeps, (to, subst (IsMade command set to) (sym d.0) is, d.2));
  refused = λ z. absurd (neither 1 z (λ p. cc) (λ p. cc) only);
  failed = λ z. let f = failed z in (f.1, (output, refl, f.0));
  memory = λ z. absurd (neither 5 z (λ p. cc) (λ p. cc) only);
  kept = λ n. same_files n kept;
  only = widened only;
}
  where
    same_files : (a.status ≡ 0 → ⊥) → (a.status ≡ 0) ⊎ (IsTrue tells → SameFiles old new) → IsTrue tells → SameFiles old new
    same_files n (inl x) = absurd (n x)
    same_files n (inr s) = s

    neither : (k : ℕ) → a.status ≡ k → (0 ≡ k → ⊥) → (3 ≡ k → ⊥) → (a.status ≡ 0) ⊎ (a.status ≡ 3) → ⊥
    neither k z p q (inl x) = p (sym x ∙ z)
    neither k z p q (inr x) = q (sym x ∙ z)

    widened : (a.status ≡ 0) ⊎ (a.status ≡ 3) → (a.status ≡ 0) ⊎ (a.status ≡ 1) ⊎ (a.status ≡ 3) ⊎ (a.status ≡ 5)
    widened (inl x) = inl x
    widened (inr x) = inr (inr (inl x))

-- A command that writes no file is done once its text is made.
pub from_told : (command : Command) (tells : Bool) (old : Files) (before : ℕ) (set : List (List ℕ)) (to : List ℕ) (status : ℕ) (made text : List ℕ)
    → IsMade command set to made → KeepsInnerRules command set → status ≡ 0 → text ≡ made → FromBytes command tells old old before before set None status text
from_told command tells old before set to status made text is keeps z e = record {
  done = λ y. (refl, keeps, (to, subst (IsMade command set to) (sym e) is, λ t name. refl));
  refused = λ y. let c : 0 ≡ 1 = sym z ∙ y in absurd cc;
  failed = λ y. let c : 0 ≡ 3 = sym z ∙ y in absurd cc;
  memory = λ y. let c : 0 ≡ 5 = sym z ∙ y in absurd cc;
  kept = λ n. absurd (n z);
  only = inl z;
}
