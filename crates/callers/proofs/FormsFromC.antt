-- The converter of forms from C prints what ecnforms prints. Assumes nothing.
use Rattle.std.specs.Prelude.{Option, None, Result, Ok, Err}
use Rattle.answers.specs.declared.Unwritten.{Unwritten}
use mathlib.Core.Path.{◌≡◌, refl, sym, ap, ◌∙◌, subst, subst⁻¹}
use mathlib.Core.List.{List}
use mathlib.Core.Bool.{Bool, true, false}
use Prim.Native.Nat.{ℕ, ◌^◌, ◌<◌}
use native.Mathlib.Omega.{arith}
use borrow.Author.Tests.{eq-eqb}
use lib.Dec.{ltb}
use lib.ListN.{length}
use Rattle.answers.specs.Writers.{written, stored}
use Rattle.answers.specs.declared.Refusal.{Refusal}
use Rattle.numbers.proofs.BigEndian.{word_lt}
use Rattle.trace.specs.Places.{zeroth_of}
use Rattle.trace.specs.declared.Record.{Record}
use Rattle.trace.specs.declared.Zeroth.{Zeroth}
use Rattle.trace.proofs.Accepted.{accepted}
use Rattle.trace.proofs.Placed.{zeroth_label}
use Rattle.walk.specs.Pieces.{Octets}
use Rattle.walk.specs.Steps.{Next, goes, refuses, fault_in, state_after}
use Rattle.forms.specs.Conversions.{begin_fault, begin_bytes, begin_by, call_next, bytes_in, Carried, carries, holding, carried_by, close_fault, close_bytes}
use Rattle.forms.specs.Converted.{told}
use Rattle.forms.specs.Pieces.{end_by}
use Rattle.forms.specs.Theorems.{started_on, brought_to, block_calls}
use Rattle.forms.specs.declared.Conversion.{Conversion}
use Rattle.forms.proofs.Calls.{calls_convert}
use Rattle.lent.specs.ConversionWords.{conversion_of, is_conversion, conversion_words}
use Rattle.lent.proofs.ConversionLaws.{held, conversion_back}
use Rattle.capi.specs.Codes.{length_code}
use Rattle.capi.specs.StepCalls.{words_after, Takes}
use Rattle.capi.specs.FormsCalls.{begins, begin_code, begin_words, forms_next, end_fault}
use Rattle.callers.specs.Sessions.{BothBring, ReadsAs, CallIs}
use Rattle.callers.specs.FormsFromC.{FormsKept, started_in, brought_in, records_for, forms_calls, FormsStartIs, FormsBlockIs, FormsFromCPrint}
use Rattle.callers.proofs.Sessions.{session_reads}

-- ---- the words and the part that a call leaves are read by the next as what it handed on

abbrev Reads : FormsKept → Carried → Type 0
Reads k s = (k.words ≡ conversion_words s.conversion) × (k.part ≡ s.part) × (s.conversion.ssrc < 2 ^ 32)

starts : (part b : List ℕ) → Octets b → (z : Result Zeroth Refusal) → zeroth_of b ≡ z → BothBring Reads (started_in part z) (started_on part z)
starts part b o (Ok label) e = (refl, refl, omega (arith, (accepted b (zeroth_label b e)).block.its_ssrc, word_lt b 4 4 o))
starts part b o (Err refusal) e = refl

module _ (c : Conversion) (part : List ℕ) (small : c.ssrc < 2 ^ 32) where
  back : (is_conversion (conversion_words c) ≡ true) × (c ≡ conversion_of (conversion_words c))
  back = let h = held (conversion_words c) (conversion_back c small) in (h.1, h.2)

  next_is : (b : List ℕ) → forms_next (conversion_words c) part b ≡ call_next c part b
  unfolding forms_next
  next_is b = rw (back.0, ← back.1)

  end_is : end_fault (conversion_words c) part ≡ close_fault c part
  unfolding end_fault
  end_is = rw (back.0, ← back.1)

  -- what a block brings keeps the SSRC
  brings : (n : Next (List Record)) → BothBring Reads (brought_in (carried_by c part n)) (carried_by c part n)
  unfolding holding
  brings (goes records) = (refl, refl, small)
  brings (refuses refusal) = refl

-- by the conversion in the words, and what a block brings to it
abbrev Turn : Carried → List ℕ → Conversion → Next (List Record) → Type 0
Turn s b c n = BothBring Reads (brought_in (carried_by c s.part n)) (carried_by s.conversion s.part (brought_to s b)) × (bytes_in c s.part n ≡ bytes_in s.conversion s.part (brought_to s b))

pub reads_as : (part : List ℕ) → ReadsAs (forms_calls part) (block_calls part)
reads_as part = record {
  Reads = Reads;
  starts = λ b o. (starts part b o (zeroth_of b) refl, refl);
  turns = λ k s b r o.
      let c = s.conversion in
      let its : ◌≡◌ {A = FormsKept} (record { words = conversion_words c; part = s.part }) k = λ i. record { words = sym r.0 i; part = sym r.1 i } in
      subst (λ (k : FormsKept). BothBring Reads ((forms_calls part).next k b) ((block_calls part).next s b) × ((forms_calls part).bytes k b ≡ (block_calls part).bytes s b)) its
      (subst (λ (d : Conversion). Turn s b d (forms_next (conversion_words c) s.part b)) (back c s.part r.2).1
      (subst⁻¹ (Turn s b c) (next_is c s.part r.2 b) (brings c s.part r.2 (brought_to s b), refl)));
  ends = λ k s e r.
      let c = s.conversion in
      let its : ◌≡◌ {A = FormsKept} k (record { words = conversion_words c; part = s.part }) = λ i. record { words = r.0 i; part = r.1 i } in
      ap (λ (k : FormsKept). (forms_calls part).end k e) its
      ∙ ap (λ (f : Option Refusal). end_by (record { out = close_bytes (conversion_of (conversion_words c)) s.part; err = told e }) f) (end_is c s.part r.2)
      ∙ ap (λ (d : Conversion). end_by (record { out = close_bytes d s.part; err = told e }) (close_fault c s.part)) (sym (back c s.part r.2).1);
  over = λ refusal. refl;
}

pub forms_from_c_print : FormsFromCPrint
forms_from_c_print part trace q room o few session =
    calls_convert part trace q room o few (session_reads FormsKept Carried (forms_calls part) (block_calls part) trace q (reads_as part) o session)

-- ---- the calls are the C functions

pub forms_start_is : FormsStartIs
unfolding begins written stored
forms_start_is k b old left out r three w =
    let is = eq-eqb (length k.words) 3 three in
    go (zeroth_of b) (w.answers ∙ rw is) (w.keeps ∙ rw is) (w.stores ∙ rw is)
  where
    by : (z : Result Zeroth Refusal) → Result (Conversion × ℕ) Unwritten
    by z = begin_by z (written (begin_fault z) (begin_bytes b z) old)

    go : (z : Result Zeroth Refusal) → r ≡ begin_code (by z) → left ≡ begin_words k.words (by z) → out ≡ stored (begin_fault z) (begin_bytes b z) old
        → CallIs (λ k. k.words) k (started_in k.part z) (begin_bytes b z) old r left out
    go (Ok label) a l s = room (ltb (length old) (length (begin_bytes b (Ok label)))) refl a l s
      where
        new : List ℕ
        new = begin_bytes b (Ok label)

        room : (small : Bool) → ltb (length old) (length new) ≡ small → r ≡ begin_code (by (Ok label)) → left ≡ begin_words k.words (by (Ok label)) → out ≡ stored None new old
            → CallIs (λ k. k.words) k (started_in k.part (Ok label)) new old r left out
        room true e a l s = record { answers = a ∙ rw e; keeps = l ∙ rw e; stores = s }
        room false e a l s = record { answers = a ∙ rw e; keeps = l ∙ rw e; stores = s }
    go (Err refusal) a l s = record { answers = a; keeps = l; stores = s }

pub forms_block_is : FormsBlockIs
unfolding written stored
forms_block_is k block old left kept out r t = go (carried_by (conversion_of k.words) k.part (records_for k block)) t.takes t.holds
  where
    given : Carried
    given = carries (conversion_of k.words) k.part

    bytes : List ℕ
    bytes = bytes_in (conversion_of k.words) k.part (records_for k block)

    go : (n : Next Carried) → Takes length_code (λ s. conversion_words s.conversion) k.words given n bytes old r left out → kept ≡ (state_after given n (written (fault_in n) bytes old)).part
        → CallIs (λ k. k.words) k (brought_in n) bytes old r left out × (kept ≡ (state_after k (brought_in n) (written (fault_in (brought_in n)) bytes old)).part)
    go (goes s) t h = (record { answers = t.answers; keeps = t.keeps ∙ words (written None bytes old); stores = t.stores }, h ∙ parts (written None bytes old))
      where
        words : (w : Result ℕ Unwritten) → words_after k.words (conversion_words (state_after given (goes s) w).conversion) w ≡ (state_after k (brought_in (goes s)) w).words
        words (Ok n) = refl
        words (Err (Unwritten.Room n)) = refl
        words (Err (Unwritten.Refused refusal)) = refl

        parts : (w : Result ℕ Unwritten) → (state_after given (goes s) w).part ≡ (state_after k (brought_in (goes s)) w).part
        parts (Ok n) = refl
        parts (Err (Unwritten.Room n)) = refl
        parts (Err (Unwritten.Refused refusal)) = refl
    go (refuses refusal) t h = (record { answers = t.answers; keeps = t.keeps; stores = t.stores }, h)
