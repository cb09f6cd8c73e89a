-- The traces of which ecnlabel refuses no block. Assumes nothing.
use Rattle.std.specs.Prelude.{Option, Some, None, Result, Ok, Err}
use mathlib.Core.Path.{◌≡◌, refl, sym, ap, ◌∙◌}
use mathlib.Core.List.{List, [], ◌∷◌}
use Prim.Native.Nat.{ℕ, suc}
use native.Mathlib.Omega.{arith}
use Rattle.answers.specs.declared.Refusal.{Refusal}
use Rattle.format.specs.declared.Form.{Form}
use Rattle.trace.specs.Places.{zeroth_of}
use Rattle.trace.specs.declared.Zeroth.{Zeroth}
use Rattle.walk.specs.Blocks.{blocks_of}
use Rattle.walk.specs.Programs.{Turn, turned, onward, walk, walked}
use Rattle.copies.specs.Fronts.{fault_of}
use Rattle.copies.specs.Theorems.{AllOwn, SoundTrace}
use Rattle.copies.proofs.Accepted.{onward_goes, onward_refused}
use Rattle.labels.specs.Labelled.{Kept, begun_by, turn_by, ecnlabel}
use Rattle.labels.specs.Theorems.{SoundIsTaken, TakenIsSound}
use Rattle.labels.proofs.Turns.{turn_by_lem}

-- ---- the blocks after block 0

module _ (i : ℕ) (b : List ℕ) (bs : List (List ℕ)) (k : Kept) where
  ended_by_lem : {o : Option Refusal} → fault_of k.form k.ssrc b ≡ o → (walk ecnlabel i (b ∷ bs) k).ended ≡ (onward (turned i (turn_by k b o)) (walk ecnlabel (suc i) bs)).ended
  unfolding walk
  ended_by_lem e = ap (λ (t : Turn Kept). (onward (turned i t) (walk ecnlabel (suc i) bs)).ended) (turn_by_lem i k b e)

  own_goes : fault_of k.form k.ssrc b ≡ None → (walk ecnlabel i (b ∷ bs) k).ended ≡ (walk ecnlabel (suc i) bs k).ended
  own_goes e = ended_by_lem e ∙ onward_goes i (turn_by k b None) (walk ecnlabel (suc i) bs) refl

  other_ends : {refusal : Refusal} → fault_of k.form k.ssrc b ≡ Some refusal → (walk ecnlabel i (b ∷ bs) k).ended ≡ Some (record { refusal = refusal; block = i })
  other_ends {refusal} e = ended_by_lem e ∙ onward_refused i (turn_by k b (Some refusal)) (walk ecnlabel (suc i) bs) refl

own_taken : (i : ℕ) (bs : List (List ℕ)) (k : Kept) → AllOwn k.form k.ssrc bs → (walk ecnlabel i bs k).ended ≡ None
unfolding walk
own_taken i [] k own = refl
own_taken i (b ∷ bs) k own = own_goes i b bs k own.0 ∙ own_taken (suc i) bs k own.1

taken_own : (i : ℕ) (bs : List (List ℕ)) (k : Kept) → (walk ecnlabel i bs k).ended ≡ None → AllOwn k.form k.ssrc bs
taken_own i [] k e = tt
taken_own i (b ∷ bs) k e = go (fault_of k.form k.ssrc b) refl (λ q. taken_own (suc i) bs k q)
  where
    go : (o : Option Refusal) → fault_of k.form k.ssrc b ≡ o → ((walk ecnlabel (suc i) bs k).ended ≡ None → AllOwn k.form k.ssrc bs)
        → AllOwn k.form k.ssrc (b ∷ bs)
    go None q back = (q, back (sym (own_goes i b bs k q) ∙ e))
    go (Some refusal) q back =
        let other = sym (other_ends i b bs k q) ∙ e in
        let z : ◌≡◌ {A = ℕ} 0 1 = cc other in
        absurd (omega arith)

-- ---- a trace

walked_by : (trace : List ℕ) {r : Result Zeroth Refusal} → zeroth_of (blocks_of trace).zeroth ≡ r
    → (walked ecnlabel (blocks_of trace)).ended ≡ (onward (turned 0 (begun_by (blocks_of trace).zeroth r)) (walk ecnlabel 1 (blocks_of trace).others)).ended
unfolding walked
walked_by trace e = ap (λ (r : Result Zeroth Refusal). (onward (turned 0 (begun_by (blocks_of trace).zeroth r)) (walk ecnlabel 1 (blocks_of trace).others)).ended) e

pub sound_is_taken : SoundIsTaken
sound_is_taken trace form n ssrc s =
    let t = begun_by (blocks_of trace).zeroth (Ok (record { form = form; length = n; ssrc = ssrc })) in
    walked_by trace s.label ∙ onward_goes 0 t (walk ecnlabel 1 (blocks_of trace).others) refl ∙ own_taken 1 (blocks_of trace).others t.state s.own

pub taken_is_sound : TakenIsSound
taken_is_sound trace e = go (zeroth_of (blocks_of trace).zeroth) refl
  where
    go : (r : Result Zeroth Refusal) → zeroth_of (blocks_of trace).zeroth ≡ r → (form : Form) × (n : ℕ) × (ssrc : ℕ) × SoundTrace trace form n ssrc
    go (Ok own) q =
        let t = begun_by (blocks_of trace).zeroth (Ok (record { form = own.form; length = own.length; ssrc = own.ssrc })) in (
          own.form,
          own.length,
          own.ssrc,
          record {
            label = q;
            own = taken_own 1 (blocks_of trace).others t.state (sym (onward_goes 0 t (walk ecnlabel 1 (blocks_of trace).others) refl) ∙ sym (walked_by trace q) ∙ e);
          },
        )
    go (Err refusal) q =
        let other = sym (onward_refused 0 (begun_by (blocks_of trace).zeroth (Err refusal)) (walk ecnlabel 1 (blocks_of trace).others) refl) ∙ sym (walked_by trace q) ∙ e in
        let z : ◌≡◌ {A = ℕ} 0 1 = cc other in
        absurd (omega arith)
