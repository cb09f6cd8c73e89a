-- A packet and what is kept of its receiver in lent words, or refusal 9; and the reader's own words. Assumes nothing.
use Rattle.std.specs.Prelude.{Option, Some, None, Result, Ok}
use Rattle.answers.specs.declared.Unwritten.{Unwritten}
use Rattle.rtcp.specs.declared.ReportBlock.{ReportBlock}
use Rattle.rtcp.specs.declared.Feedback.{Feedback}
use Rattle.format.specs.declared.Counts.{Counts}
use Rattle.between.specs.declared.calls.Kept.{Kept}
use mathlib.Core.Path.{◌≡◌, refl, sym, ap, ◌∙◌}
use mathlib.Core.Bool.{Bool, true, false, not, cond, ◌&&◌}
use mathlib.Core.List.{List, ◌++◌}
use Prim.Native.Nat.{ℕ, ◌^◌, ◌≤◌, ◌<◌}
use native.Mathlib.Omega.{arith}
use lib.Dec.{ltb}
use lib.ListN.{length, drop, replicate}
use lib.Seq.{sets}
use Rattle.answers.specs.declared.Refusal.TheVariants as refusal
use Rattle.answers.specs.Writers.{written, stored, Wrote}
use Rattle.answers.proofs.Conditions.{and_left, and_right}
use Rattle.answers.proofs.Stores.{wrote_refused, wrote_short, wrote_all, sets-front}
use Rattle.rtcp.specs.declared.Compound.{Compound}
use Rattle.breaker.specs.declared.Loss.{Loss}
use Rattle.breaker.specs.declared.Loss.TheVariants as loss
use Rattle.between.specs.declared.calls.Call.{Call}
use Rattle.between.specs.declared.calls.PacketCall.{PacketCall}
use Rattle.between.specs.PacketCalls.{ecn_report_by, ecn_report_of, or_earlier, kept_after, call_for}
use Rattle.lent.specs.CompoundWords as compound
use Rattle.lent.specs.CompoundWords.{compound_words, compound_of, is_compound, typed_report, typed_feedback, typed_summary, Typed, some_compound}
use Rattle.lent.specs.KeptWords as receiver
use Rattle.lent.specs.KeptWords.{is_kept, kept_words, typed_kept, some_kept}
use Rattle.lent.specs.CallWords.{loss_words, call_words}
use Rattle.lent.proofs.CompoundLaws as compounds
use Rattle.lent.proofs.CompoundLaws.{same_call, some_typed}
use Rattle.lent.proofs.KeptLaws as keeping
use Rattle.lent.proofs.KeptLaws.{length-kept, kept_back, some_kept_lem}
use Rattle.capi.specs.Codes.{refusal_code}
use Rattle.capi.specs.PacketWords.{call_fault, call_in, kept_by, CallsFor, ReadersCall}
use Rattle.capi.proofs.Fronts.{sets-whole}

length-loss : (highest : ℕ) (l : Loss) → length (loss_words highest l) ≡ 6
unfolding loss_words
length-loss highest (loss.Fraction f) = refl
length-loss highest (loss.Counts c) = refl

pub length-call : (call : Call) → length (call_words call) ≡ 6
unfolding call_words
length-call (Call.Report highest l) = length-loss highest l
length-call Call.Heard = refl

-- ---- the call on lent words

module _ (found kept old : List ℕ) where
  -- a writer's answer, as a number, and what is kept by it
  by : {answer : Result ℕ Unwritten} {out : List ℕ} → Wrote (call_fault found kept) (call_words (call_in found kept).call) old answer out
      → CallsFor found kept old (refusal_code answer) (kept_by answer (kept_words (call_in found kept).kept) kept) out
  by w =
      record {
        answers = ap refusal_code w.answers;
        keeps = ap (λ (a : Result ℕ Unwritten). kept_by a (kept_words (call_in found kept).kept) kept) w.answers;
        stores = w.stores;
      }

  refused : (is_compound found && is_kept kept) ≡ false → CallsFor found kept old 9 kept old
  unfolding call_fault
  refused e = by (wrote_refused (call_words (call_in found kept).call) old {refusal = refusal.Malformed} (rw e))

  pub no_compound : compound.loaded found ≡ None → CallsFor found kept old 9 kept old
  no_compound e = refused (rw (compounds.other found e))

  module _ {c : Compound} (e : compound.loaded found ≡ Some c) where
    pub nothing_kept : receiver.loaded kept ≡ None → CallsFor found kept old 9 kept old
    nothing_kept f = refused (rw ((compounds.held found e).0, keeping.other kept f))

    module _ {k : Option Kept} (f : receiver.loaded kept ≡ Some k) where
      none_is : call_fault found kept ≡ None
      unfolding call_fault
      none_is = rw ((compounds.held found e).0, (keeping.held kept f).1)

      told : call_for c k ≡ call_in found kept
      told = λ i. call_for ((compounds.held found e).1 i) ((keeping.held kept f).2 i)

      pub call_short : length old < 6 → CallsFor found kept old 12 kept old
      call_short h =
          let new = call_words (call_in found kept).call in
          by (wrote_short new old none_is (omega (arith, length-call (call_in found kept).call)) (sym (length-call (call_in found kept).call)))

      pub call_told : 6 ≤ length old → CallsFor found kept old 0 (sets kept 0 (kept_words (call_for c k).kept)) (sets old 0 (call_words (call_for c k).call))
      call_told h =
          let next = call_for c k in
          let size = length-call (call_in found kept).call in
          let w = by (wrote_all (call_words (call_in found kept).call) old none_is (omega (arith, size)) (sym size) refl) in
          let whole = sets-whole kept (kept_words next.kept) ((keeping.held kept f).0 ∙ sym (length-kept next.kept)) in
          record {
            answers = w.answers;
            keeps = whole ∙ ap (λ (p : PacketCall). kept_words p.kept) told ∙ w.keeps;
            stores = ap (λ (p : PacketCall). sets old 0 (call_words p.call)) told ∙ w.stores;
          }

-- ---- on the reader's own words

-- an ECN report of a compound that fits its types
report_typed : (r : Option ReportBlock) (f : Option Feedback) (s : Option Counts) → typed_report r ≡ true → typed_feedback f ≡ true → typed_summary s ≡ true
    → typed_kept (ecn_report_by f s r) ≡ true
report_typed r (Some f) s a b c = b
report_typed (Some r) None (Some s) a b c =
    rw (and_left (ltb r.highest (2 ^ 32)) true (and_right (ltb r.fraction (2 ^ 8)) _ a)) c
report_typed None None (Some s) a b c = refl
report_typed r None None a b c = refl

or_typed : (new earlier : Option Kept) → typed_kept new ≡ true → typed_kept earlier ≡ true → typed_kept (or_earlier new earlier) ≡ true
or_typed (Some k) earlier a b = a
or_typed None earlier a b = b

kept_typed : (c : Compound) (earlier : Option Kept) → Typed c → typed_kept earlier ≡ true → typed_kept (kept_after c earlier) ≡ true
unfolding kept_after
kept_typed c earlier t h = go c.reporting
  where
    go : (b : Bool) → typed_kept (cond (not b) earlier (or_earlier (ecn_report_of c) earlier)) ≡ true
    go true = or_typed (ecn_report_of c) earlier (report_typed c.report c.feedback c.summary t.report t.feedback t.summary) h
    go false = h

pub readers_call : ReadersCall
unfolding call_fault
readers_call c earlier old r left out t k room w =
    let found = compound_words c in
    let kept = kept_words earlier in
    let new = call_words (call_for c earlier).call in
    let size = length-call (call_for c earlier).call in
    let same = same_call c earlier t in
    let back = keeping.held kept (kept_back earlier k) in
    let fault : call_fault found kept ≡ None = rw (same.0, back.1) in
    let next : call_in found kept ≡ call_for c earlier = ap (call_for (compound_of found)) (sym back.2) ∙ same.1 in
    let all : Wrote None new old (Ok 6) (sets old 0 new) = wrote_all new old refl (omega (arith, size)) (sym size) refl in
    let answer : written (call_fault found kept) (call_words (call_in found kept).call) old ≡ Ok 6 =
    (λ i. written (fault i) (call_words (next i).call) old) ∙ sym all.answers in
    record {
      answers = w.answers ∙ ap refusal_code answer;
      keeps = w.keeps ∙ (λ i. kept_by (answer i) (kept_words (next i).kept) kept);
      again = kept_typed c earlier t k;
      stores = w.stores ∙ (λ i. stored (fault i) (call_words (next i).call) old) ∙ sym all.stores
          ∙ sets-front old new (omega (arith, size)) ∙ ap (λ (n : ℕ). new ++ drop n old) size;
    }

used : Unit {0}
used =
    let six : List ℕ = replicate 6 0 in
    let w : CallsFor (compound_words some_compound) (kept_words some_kept) six _ _ _ = record { answers = refl; keeps = refl; stores = refl } in
    let called = readers_call some_compound some_kept six _ _ _ some_typed some_kept_lem.typed (omega arith) w in
    tt
