-- How each test decides what a block is. Assumes nothing.
use Rattle.std.specs.Prelude.{Some, None, Ok, Err}
use Rattle.std.proofs.Common.{◌≡◌, ℕ, ◌-◌, ◌*◌, ◌/◌, ◌%◌, ◌<◌, ◌≤◌, Bool, true, false, cond, not, ◌&&◌, eqb, leb, List, [], ◌∷◌, length, get_or, take, drop, sym, refl, ap, ◌∙◌, ⊎_elim, div-add-mod', arith, length-drop, take_all, le-ltb, lt-ltb, eq-eqb, ne_eqb, eqb-true, le-leb, leb-true}
use mathlib.Core.Bool.{and-true}
use denote.Enum.Declared.{tag_of}
use types.Run.{OneOf}
use borrow.Author.Tests.{lt-leb}
use Rattle.answers.specs.declared.Refusal.TheVariants.{Incomplete, Checksum, Contents, Limits, Retired}
use Rattle.answers.proofs.Conditions.{and_left, and_right, all_true, all_false}
use Rattle.trace.specs.Writing.{retired_fault, label_fault, lists_conditions, arrivals_ok, arrivals_fault, body_conditions, body_ok, body_fault, count_fault}
use Rattle.trace.specs.Checksum.{words, ones_sum}
use Rattle.trace.specs.Retired.{retired_in}
use Rattle.format.specs.Forms.{Shape, shape_of, width, kind_of}
use Rattle.format.specs.declared.Form.{Form}
use Rattle.format.specs.declared.Kind.{Kind}
use Rattle.format.specs.declared.Kind.TheVariants as kind
use Rattle.format.specs.contracts.Kind.{the_type}
use Rattle.format.proofs.Fits.{kind_arrivals}
use Rattle.trace.specs.Layout.{record_at, body_of}
use Rattle.trace.specs.Contents.{every, is_zero, is_mark, is_time, label_byte, label_ok, label_conditions, label_body, count_ok, good_records, arrivals_conditions, arrivals_body}
use Rattle.trace.specs.Reading.{kind_in, count_in, ssrc_in, check_in, right_check, contents_by, contents_of, block_of, found_by, found_at}
use Rattle.trace.specs.declared.Block.TheVariants.{Label, Arrivals}

-- the part `&s[n..]`
pub part_tail : (s : List ℕ) (n : ℕ) → take (length s - n) (drop n s) ≡ drop n s
part_tail s n = take_all (length s - n) (drop n s) (rw length-drop (omega arith))

-- ---- a label

module _ (s : List ℕ) where
  pub label_long : 502 < length s → false ≡ label_ok s
  unfolding label_ok
  label_long h = rw (lt-leb (length s) 502 h)

  pub label_rest : length s ≤ 502 → {r : Bool} → r ≡ every label_byte s → r ≡ label_ok s
  unfolding label_ok
  label_rest h e = rw (le-leb (length s) 502 h) (e ∙ sym (and-true (every label_byte s)))

module _ (n : ℕ) (body : List ℕ) where
  pub text_false : (i : ℕ) → get_or (label_conditions n body) i true ≡ false → false ≡ label_body n body
  unfolding label_body
  text_false i e = all_false (label_conditions n body) i e

  pub text_rest : n ≤ 502 → every label_byte (take n body) ≡ true → {r : Bool} → r ≡ every is_zero (drop n body) → r ≡ label_body n body
  unfolding label_body
  text_rest h e k = rw (le-leb n 502 h, e) (k ∙ sym (and-true (every is_zero (drop n body))))

-- ---- arrivals

pub count_right : (shape : Shape) (n : ℕ) → count_ok shape n ≡ true → (1 ≤ n) × (n ≤ shape.most)
unfolding count_ok
count_right shape n e = (leb-true 1 n (and_left (leb 1 n) _ e), leb-true n shape.most (and_right (leb 1 n) _ e))

pub count_refused : (shape : Shape) (n : ℕ) → count_ok shape n ≡ false → count_fault shape n ≡ Some Limits
unfolding count_fault
count_refused shape n e = rw e

pub count_taken : (shape : Shape) (n : ℕ) → count_ok shape n ≡ true → count_fault shape n ≡ None
unfolding count_fault
count_taken shape n e = rw e

module _ (shape : Shape) (n : ℕ) (body : List ℕ) where
  pub records_false : (i : ℕ) → get_or (arrivals_conditions shape n body) i true ≡ false → false ≡ arrivals_body shape n body
  unfolding arrivals_body
  records_false i e = all_false (arrivals_conditions shape n body) i e

  pub records_rest : count_ok shape n ≡ true → {r : Bool} → r ≡ (good_records shape n body && every is_zero (drop (n * width shape) body)) → r ≡ arrivals_body shape n body
  unfolding arrivals_body
  records_rest c e = rw c (e ∙ ap (λ (t : Bool). good_records shape n body && t) (sym (and-true (every is_zero (drop (n * width shape) body)))))

-- ---- a block with a right check, by what has been read of it

pub kind_told : (b : List ℕ) {number : ℕ} {says k : Kind} → number ≡ kind_in b → says ≡ kind_of number → says ≡ k → kind_of (kind_in b) ≡ k
kind_told b ek ef e = sym (ef ∙ ap kind_of ek) ∙ e

module _ (b : List ℕ) {n ssrc number : ℕ} {says : Kind} (en : n ≡ count_in b) (es : ssrc ≡ ssrc_in b) (ek : number ≡ kind_in b) (ef : says ≡ kind_of number) where
  by_kind : {k : Kind} → says ≡ k → contents_by b k ≡ contents_of b
  unfolding contents_of
  by_kind e = ap (contents_by b) (sym (kind_told b ek ef e))

  pub label_by : {form : Form} → says ≡ kind.Label form → {r t : Bool} → r ≡ label_body n (body_of b) → r ≡ t
      → cond t (Ok (Label form n ssrc)) (Err Contents) ≡ contents_of b
  label_by k er h = rw (← h, er, en, es) (by_kind k)

  pub arrivals_by : {form : Form} → says ≡ kind.Arrivals form → {r t : Bool} → r ≡ arrivals_body (shape_of form) n (body_of b) → r ≡ t
      → cond t (Ok (Arrivals form n ssrc)) (Err Contents) ≡ contents_of b
  arrivals_by k er h = rw (← h, er, en, es) (by_kind k)

  pub no_kind : says ≡ kind.Unknown → Err Contents ≡ contents_of b
  no_kind k = by_kind k

-- ---- any slice

module _ (b : List ℕ) where
  pub not_whole : (length b ≡ 512 → ⊥) → Err Incomplete ≡ block_of b
  unfolding block_of
  not_whole h = rw (ne_eqb (length b) 512 h)

  module _ (whole : length b ≡ 512) where
    pub wrong_check : right_check b ≡ false → Err Checksum ≡ block_of b
    unfolding block_of
    wrong_check e = rw (eq-eqb (length b) 512 whole, e)

    pub right_check_lem : right_check b ≡ true → contents_of b ≡ block_of b
    unfolding block_of
    right_check_lem e = rw (eq-eqb (length b) 512 whole, e)

-- the check, by its sum and by its word
module _ (b : List ℕ) {sum : ℕ} (es : sum ≡ ones_sum (words b)) where
  pub other_sum : (sum ≡ 65535 → ⊥) → false ≡ right_check b
  unfolding right_check
  other_sum h = rw (← es, ne_eqb sum 65535 h)

  pub same_sum : sum ≡ 65535 → {check : ℕ} → check ≡ check_in b → not (eqb check 65535) ≡ right_check b
  unfolding right_check
  same_sum h {check} ec = rw (← es, eq-eqb sum 65535 h, ← ec) (sym (and-true (not (eqb check 65535))))

-- ---- the record i

module _ (b : List ℕ) (i : ℕ) where
  pub found_short : (length b ≡ 512 → ⊥) → Err Incomplete ≡ found_at b i
  unfolding found_at
  found_short h = rw (ne_eqb (length b) 512 h)

  pub found_whole : length b ≡ 512 → {k : Kind} → kind_of (kind_in b) ≡ k → found_by b i k ≡ found_at b i
  unfolding found_at
  found_whole h e = rw (eq-eqb (length b) 512 h) (ap (found_by b i) (sym e))

  -- a kind that is not arrivals
  pub found_other : (k : Kind) → OneOf (0 ∷ 2 ∷ []) (tag_of the_type k) → Err Contents ≡ found_by b i k
  found_other (kind.Arrivals form) h = ⊎_elim (λ z. absurd (omega arith)) (λ z. absurd (omega arith)) h
  found_other (kind.Label form) h = refl
  found_other kind.Unknown h = refl

  module _ (form : Form) {n : ℕ} (en : n ≡ count_in b) where
    pub found_none : count_ok (shape_of form) n ≡ false → Err Contents ≡ found_by b i (kind.Arrivals form)
    found_none e = rw (← en, e)

    module _ (e : count_ok (shape_of form) n ≡ true) where
      pub found_past : n ≤ i → Err Limits ≡ found_by b i (kind.Arrivals form)
      found_past h = rw (← en, e, le-ltb i n h)

      pub found_here : i < n → Ok (record_at (shape_of form) (body_of b) (i * width (shape_of form))) ≡ found_by b i (kind.Arrivals form)
      found_here h = rw (← en, e, lt-ltb i n h)

      -- in a whole block of the form's kind
      pub found_there : length b ≡ 512 → kind_in b ≡ (shape_of form).arrivals → i < n → found_at b i ≡ Ok (record_at (shape_of form) (body_of b) (i * width (shape_of form)))
      found_there whole k h = sym (found_here h ∙ found_whole whole (ap kind_of k ∙ kind_arrivals form))

-- ---- what a writer is given

module _ (label : List ℕ) where
  pub label_refused : label_ok label ≡ false → label_fault label ≡ Some Limits
  unfolding label_fault
  label_refused e = rw e

  -- a label that a trace may have is refused only for a retired byte
  pub label_retired : label_ok label ≡ true → label_fault label ≡ retired_fault label
  unfolding label_fault
  label_retired e = rw e

  pub retired_refused : label_ok label ≡ true → 0 < retired_in label → label_fault label ≡ Some Retired
  retired_refused e h = label_retired e ∙ rw (ne_eqb (retired_in label) 0 (λ z. omega (arith, h, z)))

  pub label_taken : label_ok label ≡ true → retired_in label ≡ 0 → label_fault label ≡ None
  label_taken e z = label_retired e ∙ rw z

  -- one that the writer takes
  pub taken_label : label_fault label ≡ None → (label_ok label ≡ true) × (retired_in label ≡ 0)
  unfolding label_fault
  taken_label e = go (label_ok label) (eqb (retired_in label) 0) refl refl e
    where
      go : (t u : Bool) → label_ok label ≡ t → eqb (retired_in label) 0 ≡ u → cond (not t) (Some Limits) (cond u None (Some Retired)) ≡ None
          → (label_ok label ≡ true) × (retired_in label ≡ 0)
      go true true et eu e = (et, eqb-true (retired_in label) 0 eu)
      go true false et eu e = let z : ◌≡◌ {A = ℕ} 0 1 = cc in absurd (omega arith)
      go false u et eu e = let z : ◌≡◌ {A = ℕ} 0 1 = cc in absurd (omega arith)

  pub label_short : label_ok label ≡ true → length label ≤ 502
  unfolding label_ok
  label_short e = leb-true (length label) 502 (all_true (leb (length label) 502 ∷ every label_byte label ∷ []) 0 e)

  pub label_bytes : label_ok label ≡ true → every label_byte label ≡ true
  unfolding label_ok
  label_bytes e = all_true (leb (length label) 502 ∷ every label_byte label ∷ []) 1 e

module _ (shape : Shape) (times numbers marks : List ℕ) where
  pub lists_refused : arrivals_ok shape times numbers marks ≡ false → arrivals_fault shape times numbers marks ≡ Some Limits
  unfolding arrivals_fault
  lists_refused e = rw e

  -- lists that can be a block's records
  pub record Taken : Type 0 where
    pub no_fault : arrivals_fault shape times numbers marks ≡ None
    pub numbers_long : length numbers ≡ length times
    pub marks_long : length marks ≡ length times
    pub count : count_ok shape (length times) ≡ true
    pub most : length times ≤ shape.most
    pub timed : every (is_time shape) times ≡ true
    pub good : every is_mark marks ≡ true

  pub lists_taken : arrivals_ok shape times numbers marks ≡ true → Taken
  unfolding arrivals_ok arrivals_fault
  lists_taken e = record {
    no_fault = rw e;
    numbers_long = eqb-true (length numbers) (length times) (all_true (lists_conditions shape times numbers marks) 0 e);
    marks_long = eqb-true (length marks) (length times) (all_true (lists_conditions shape times numbers marks) 1 e);
    count = all_true (lists_conditions shape times numbers marks) 2 e;
    most = (count_right shape (length times) (all_true (lists_conditions shape times numbers marks) 2 e)).1;
    timed = all_true (lists_conditions shape times numbers marks) 3 e;
    good = all_true (lists_conditions shape times numbers marks) 4 e;
  }

  pub lists_false : (i : ℕ) → get_or (lists_conditions shape times numbers marks) i true ≡ false → false ≡ arrivals_ok shape times numbers marks
  unfolding arrivals_ok
  lists_false i e = all_false (lists_conditions shape times numbers marks) i e

  pub lists_rest : length numbers ≡ length times → length marks ≡ length times → count_ok shape (length times) ≡ true → every (is_time shape) times ≡ true
      → {r : Bool} → r ≡ every is_mark marks → r ≡ arrivals_ok shape times numbers marks
  unfolding arrivals_ok
  lists_rest en em c t e =
      rw (eq-eqb (length numbers) (length times) en, eq-eqb (length marks) (length times) em, c, t) (e ∙ sym (and-true (every is_mark marks)))

-- ---- records as a body has them

module _ (shape : Shape) (s : List ℕ) where
  pub body_refused : body_ok shape s ≡ false → body_fault shape s ≡ Some Limits
  unfolding body_fault
  body_refused e = rw e

  -- bytes that can be a block's records
  pub record BodyTaken : Type 0 where
    pub no_fault : body_fault shape s ≡ None
    pub whole : length s / width shape * width shape ≡ length s
    pub count : count_ok shape (length s / width shape) ≡ true
    pub most : length s / width shape ≤ shape.most
    pub good : good_records shape (length s / width shape) s ≡ true

  pub body_taken : body_ok shape s ≡ true → BodyTaken
  unfolding body_ok body_fault
  body_taken e =
      let tests = body_conditions shape s in
      let rest : length s % width shape ≡ 0 = eqb-true (length s % width shape) 0 (all_true tests 0 e) in
      record {
        no_fault = rw e;
        whole = omega (arith, rest, div-add-mod' (length s) (width shape));
        count = all_true tests 1 e;
        most = (count_right shape (length s / width shape) (all_true tests 1 e)).1;
        good = all_true tests 2 e;
      }

  pub body_false : (i : ℕ) → get_or (body_conditions shape s) i true ≡ false → false ≡ body_ok shape s
  unfolding body_ok
  body_false i e = all_false (body_conditions shape s) i e

  pub body_rest : length s % width shape ≡ 0 → count_ok shape (length s / width shape) ≡ true
      → {r : Bool} → r ≡ good_records shape (length s / width shape) s → r ≡ body_ok shape s
  unfolding body_ok
  body_rest w c e = rw (eq-eqb (length s % width shape) 0 w, c) (e ∙ sym (and-true (good_records shape (length s / width shape) s)))
