-- A conversion in lent words, or refusal 9, and how long the blocks are that it writes. Assumes nothing.
use Rattle.std.specs.Prelude.{Some, None, Result, Ok, Err}
use Rattle.answers.specs.declared.Unwritten.{Unwritten}
use Rattle.answers.specs.declared.Refusal.{Refusal}
use mathlib.Core.Path.{◌≡◌, refl, ap, ◌∙◌, subst₂}
use mathlib.Core.Bool.{Bool, true, false, cond}
use mathlib.Core.List.{List, [], ◌∷◌, ◌++◌}
use Prim.Native.Nat.{ℕ, ◌*◌, ◌+◌, ◌≤◌, ◌<◌}
use native.Mathlib.Omega.{arith}
use borrow.Author.Tests.{eq-eqb, ne_eqb}
use lib.IntN.{ℤ, pos, neg_ℤ}
use lib.ListN.{length, take, length-append}
use Rattle.answers.specs.Writers.{written, size_in, Wrote}
use Rattle.answers.specs.declared.Refusal.TheVariants as refusal
use Rattle.answers.proofs.Stores.{wrote_refused, wrote_size, wrote_same}
use Rattle.format.specs.Blocks.{block_bytes}
use Rattle.format.specs.Forms.{shape_of, other_form}
use Rattle.format.specs.declared.Form.{Form}
use Rattle.format.specs.declared.Form.TheVariants.{One, Two}
use Rattle.format.proofs.Fits.{fits, records_fit}
use Rattle.trace.specs.Layout.{body_of}
use Rattle.trace.specs.Places.{zeroth_of}
use Rattle.trace.specs.declared.Zeroth.{Zeroth}
use Rattle.trace.specs.declared.Record.{Record}
use Rattle.trace.proofs.Accepted.{accepted}
use Rattle.trace.proofs.Placed.{zeroth_label}
use Rattle.trace.proofs.Layouts.{length-label_block, length-arrivals_block}
use Rattle.trace.proofs.Records.{length-records_in}
use Rattle.walk.specs.Steps.{Next, goes, refuses, state_after}
use Rattle.forms.specs.declared.Conversion.{Conversion}
use Rattle.forms.specs.declared.Step.{Step}
use Rattle.forms.specs.Packing.{full, last_block}
use Rattle.forms.specs.Conversions.{to_shape, held_in, sound, begin_fault, begin_bytes, begin_by, Began, next_of}
use Rattle.forms.specs.Conversions.{call_next, bytes_in, Carried, carries, carried_by, after_of, TakesBlock, close_fault, close_bytes}
use Rattle.forms.proofs.Held.{is_sound_lem}
use Rattle.forms.proofs.Packed.{full_fits, length-full}
use Rattle.forms.proofs.Whole.{brings, few_brought}
use Rattle.lent.specs.ConversionWords.{conversion_of, conversion_words, loaded}
use Rattle.lent.proofs.ConversionLaws.{held, other}
use Rattle.capi.specs.Codes.{length_code, Leaves}
use Rattle.capi.specs.StepCalls.{words_after, Takes}
use Rattle.capi.specs.FormsCalls.{begins, begin_code, begin_words, begin_size, BeginsForms, forms_next, TakesForms, end_fault}
use Rattle.capi.proofs.StepLaws.{takes_step, takes_none}

-- ---- block 0

module _ (words zeroth old : List ℕ) where
  pub begins_other : (length words ≡ 3 → ⊥) → BeginsForms words zeroth old (neg_ℤ (pos 9)) words old
  unfolding begins
  begins_other n = let t = ne_eqb (length words) 3 n in record { answers = rw t; keeps = rw t; stores = rw t }

  pub begins_begun : {b : Result (Conversion × ℕ) Unwritten} {r : ℤ} {left out : List ℕ} → length words ≡ 3 → Began zeroth old b out → Leaves (begin_code b) (begin_words words b) r left
      → BeginsForms words zeroth old r left out
  unfolding begins
  begins_begun n w l =
      let t = eq-eqb (length words) 3 n in
      record {
        answers = rw t (l.answers ∙ ap begin_code w.answers);
        keeps = rw t (l.stores ∙ ap (begin_words words) w.answers);
        stores = rw t w.stores;
      }

begun_size : (form : Form) (n ssrc : ℕ) (w : Result ℕ Unwritten) → begin_size (begin_by (Ok (record { form = form; length = n; ssrc = ssrc })) w) ≡ size_in w
begun_size form n ssrc (Ok k) = refl
begun_size form n ssrc (Err (Unwritten.Room k)) = refl
begun_size form n ssrc (Err (Unwritten.Refused refusal)) = refl

-- a label block has 512 bytes
pub begin_size_lem : (zeroth old : List ℕ) {b : Result (Conversion × ℕ) Unwritten} {out : List ℕ} → Began zeroth old b out → begin_size b ≤ 512
unfolding written
begin_size_lem b old w = omega (arith, ap begin_size w.answers, go (zeroth_of b) refl)
  where
    go : (z : Result Zeroth Refusal) → zeroth_of b ≡ z → begin_size (begin_by z (written (begin_fault z) (begin_bytes b z) old)) ≤ 512
    go (Err refusal) e = omega arith
    go (Ok label) e =
        let a = accepted b (zeroth_label b e) in
        let new = begin_bytes b (Ok (record { form = label.form; length = label.length; ssrc = label.ssrc })) in
        let long : length new ≡ 512 = length-label_block (shape_of (other_form label.form)) (take label.length (body_of b)) label.ssrc (omega (arith, a.block.long, a.block.room)) in
        let short = wrote_size {fault = None} {new = new} {old = old} {answer = written None new old} 512 (λ _. omega (arith, long))
        (record { answers = refl; stores = refl }) in
        omega (arith, short, begun_size label.form label.length label.ssrc (written None new old))

-- ---- a later block

abbrev pub words_of : Carried → List ℕ
words_of k = conversion_words k.conversion

module _ (words part block old : List ℕ) where
  pub forms_other : loaded words ≡ None → TakesForms words part block old (neg_ℤ (pos 9)) words part old
  unfolding forms_next written
  forms_other e =
      let t = other words e in
      record { takes = takes_none length_code words_of words {refusal = refusal.Malformed} (rw t); holds = rw t }

  module _ {c : Conversion} (e : loaded words ≡ Some c) where
    next_is : call_next c part block ≡ forms_next words part block
    unfolding forms_next
    next_is = let h = held words e in rw (h.1, ← h.2)

    pub forms_stepped : {s : Step} {r : ℤ} {left kept out : List ℕ} → TakesBlock c part (call_next c part block) old s kept out
        → Leaves (length_code s.answer) (words_after words (conversion_words s.conversion) s.answer) r left → TakesForms words part block old r left kept out
    forms_stepped {s} {r} {left} {kept} {out} w l =
        let h = held words e in
        record {
          takes = subst₂ (λ (x : Conversion) (n : Next (List Record)). Takes length_code words_of words (carries x part) (carried_by x part n)
              (bytes_in x part n) old r left out) h.2 next_is
              (takes_step length_code words_of words w l);
          holds = ap (λ (k : Carried). k.part)
              (w.after ∙ ap (state_after (carries c part) (carried_by c part (call_next c part block))) w.wrote.answers
              ∙ (λ i. after_of (h.2 i) part (next_is i) old));
        }

-- two blocks are the most that a call writes
two_most : (form : Form) (k held n : ℕ) → held < (shape_of (other_form form)).most → n ≤ (shape_of form).most
    → k * (shape_of (other_form form)).most ≤ held + n → k ≤ 2
two_most One k held n h f e = omega arith
two_most Two k held n h f e = omega arith

module _ (c : Conversion) (part block : List ℕ) where
  blocks_long : (next : Next (List Record)) → next_of c.form c.ssrc block ≡ next → sound c part ≡ true → length (bytes_in c part next) ≤ 1024
  blocks_long (refuses refusal) e g = omega arith
  blocks_long (goes records) e g =
      let rs = held_in c part ++ records in
      let fit = full_fits (to_shape c) rs in
      let many = length-append (held_in c part) records in
      let kept = length-records_in (to_shape c) c.held part in
      let few = two_most c.form (full (to_shape c) rs) c.held (length records) (is_sound_lem g).few (few_brought (brings c.form c.ssrc block e))
      (omega (arith, fit, many, kept)) in
      omega (arith, few, length-full (to_shape c) c.ssrc (fits (other_form c.form)).room (full (to_shape c) rs) rs fit)

  call_long : length (bytes_in c part (call_next c part block)) ≤ 1024
  unfolding call_next
  call_long = go (sound c part) refl
    where
      go : (t : Bool) → sound c part ≡ t → length (bytes_in c part (cond t (next_of c.form c.ssrc block) (refuses refusal.Malformed))) ≤ 1024
      go true g = blocks_long (next_of c.form c.ssrc block) refl g
      go false g = omega arith

  pub forms_size : (old : List ℕ) {s : Step} {kept out : List ℕ} → TakesBlock c part (call_next c part block) old s kept out → size_in s.answer ≤ 1024
  forms_size old w = wrote_size 1024 (λ _. call_long) w.wrote

-- ---- the end

module _ (words part old : List ℕ) where
  pub close_other : loaded words ≡ None → Wrote (end_fault words part) (close_bytes (conversion_of words) part) old (Err (Unwritten.Refused refusal.Malformed)) old
  unfolding end_fault
  close_other e = wrote_refused (close_bytes (conversion_of words) part) old (rw (other words e))

  pub close_held : {c : Conversion} {answer : Result ℕ Unwritten} {out : List ℕ} → loaded words ≡ Some c → Wrote (close_fault c part) (close_bytes c part) old answer out
      → Wrote (end_fault words part) (close_bytes (conversion_of words) part) old answer out
  unfolding end_fault
  close_held {c} e w =
      let h = held words e in
      let fault : close_fault c part ≡ end_fault words part = rw h.1 (ap (λ (x : Conversion). close_fault x part) h.2) in
      wrote_same fault (ap (λ (x : Conversion). close_bytes x part) h.2) w

last_long : (form : Form) (ssrc : ℕ) (rs : List Record) → length rs ≤ (shape_of form).most → length (last_block (shape_of form) ssrc rs) ≤ block_bytes
last_long form ssrc [] h = omega arith
last_long form ssrc (r ∷ rs) h = omega (arith, length-arrivals_block (shape_of form) (r ∷ rs) ssrc (records_fit (fits form) h))

pub close_long : (c : Conversion) (part : List ℕ) → close_fault c part ≡ None → length (close_bytes c part) ≤ block_bytes
unfolding close_fault
close_long c part e = go (sound c part) refl e
  where
    go : (t : Bool) → sound c part ≡ t → cond t None (Some refusal.Malformed) ≡ None → length (close_bytes c part) ≤ block_bytes
    go true g e = last_long (other_form c.form) c.ssrc (held_in c part) (omega (arith, length-records_in (to_shape c) c.held part, (is_sound_lem g).few))
    go false g e = let z : ◌≡◌ {A = ℕ} 0 1 = cc in absurd (omega arith)
