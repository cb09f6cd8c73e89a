-- The calls over pieces, case by case. Assumes nothing.
use Rattle.std.specs.Prelude.{is_some, Option, Some, None, Result, Ok, Err}
use Rattle.answers.specs.declared.Unwritten.{Unwritten}
use mathlib.Core.Path.{◌≡◌, refl, sym, ap, ◌∙◌, subst⁻¹}
use mathlib.Core.Bool.{Bool, true, false, cond}
use mathlib.Core.List.{List, [], ◌∷◌, ◌++◌}
use Prim.Native.Nat.{ℕ, ◌/◌, ◌^◌, ◌≤◌, ◌<◌}
use native.Mathlib.Omega.{arith}
use borrow.Author.Tests.{ltb-true, ltb-false}
use lib.Dec.{ltb}
use lib.ListN.{length, take, drop}
use Rattle.answers.specs.Refusals.{number_of}
use Rattle.answers.specs.Writers.{written, stored, Wrote}
use Rattle.answers.specs.declared.Refusal.{Refusal}
use Rattle.answers.specs.declared.Refusal.TheVariants.{Incomplete, Malformed}
use Rattle.answers.proofs.Stores.{sets-front, wrote_refused, wrote_short, wrote_all, wrote_same}
use Rattle.format.specs.Blocks.{block_bytes}
use Rattle.format.specs.declared.Form.{Form}
use Rattle.trace.specs.Places.{zeroth_of}
use Rattle.trace.specs.declared.Zeroth.{Zeroth}
use Rattle.table.specs.Lines.{refused_line}
use Rattle.walk.specs.Pieces.{whole_in}
use Rattle.walk.specs.Fitting.{Took, fitting}
use Rattle.walk.specs.Machines.{fitting_by, ending_by}
use Rattle.walk.specs.Endings.{number_after}
use Rattle.walk.proofs.Fits.{fitting_fits}
use Rattle.forms.specs.declared.Conversion.{Conversion}
use Rattle.forms.specs.declared.pieces.Progress.{Progress}
use Rattle.forms.specs.declared.pieces.Begun.{Begun}
use Rattle.forms.specs.declared.pieces.Taken.{Taken}
use Rattle.forms.specs.Conversions.{begin_fault, begin_bytes, begin_by, Began, sound, Carried, carries, close_fault}
use Rattle.forms.specs.Converted.{Kept, kept_of, no_trace, begun, told, ecnforms}
use Rattle.forms.specs.Pieces.{conversion_of, progress_by, progress_of, not_begun, Begins, standing, took_of, carried_over, carried_with, piece_fault, TakenBy, Takes, Fitted}

-- ---- block 0

-- the answer by that of `Conversion.start`
abbrev pub begun_for : Result (Conversion × ℕ) Unwritten → Begun
begun_for (Ok (c, n)) = record { answer = Ok n; progress = record { conversion = c; block = 1; ended = None } }
begun_for (Err (Unwritten.Room n)) = record { answer = Err (Unwritten.Room n); progress = not_begun }
begun_for (Err (Unwritten.Refused refusal)) = record { answer = Ok 0; progress = record { conversion = conversion_of no_trace; block = 0; ended = Some refusal } }

module _ (b old : List ℕ) where
  module _ {z : Result Zeroth Refusal} (e : zeroth_of b ≡ z) where
    printed_by_lem : (begun b z).printed.out ≡ (ecnforms.begin b).printed.out
    printed_by_lem = ap (λ (z : Result Zeroth Refusal). (begun b z).printed.out) (sym e)

    progress_by_lem : progress_by (begun b z) ≡ progress_of b
    unfolding progress_of
    progress_by_lem = ap (λ (z : Result Zeroth Refusal). progress_by (begun b z)) (sym e)

    began_by : {r : Result (Conversion × ℕ) Unwritten} {out : List ℕ} → Began b old r out
        → (r ≡ begin_by z (written (begin_fault z) (begin_bytes b z) old)) × (out ≡ stored (begin_fault z) (begin_bytes b z) old)
    began_by g = (
      g.answers ∙ ap (λ (z : Result Zeroth Refusal). begin_by z (written (begin_fault z) (begin_bytes b z) old)) e,
      g.stores ∙ ap (λ (z : Result Zeroth Refusal). stored (begin_fault z) (begin_bytes b z) old) e,
    )

  module _ {form : Form} {n ssrc : ℕ} (e : zeroth_of b ≡ Ok (record { form = form; length = n; ssrc = ssrc })) where
    abbrev new : List ℕ
    new = begin_bytes b (Ok (record { form = form; length = n; ssrc = ssrc }))

    begins_label : (small : Bool) → ltb (length old) (length new) ≡ small
        → Begins b old (begun_for (begin_by (Ok (record { form = form; length = n; ssrc = ssrc })) (cond small (Err (Unwritten.Room (length new))) (Ok (length new))))) (cond small old (new ++ drop (length new) old))
    begins_label true t = record { wrote = wrote_same refl (printed_by_lem e) (wrote_short {fault = None} new old refl (ltb-true (length old) (length new) t) refl); progress = refl }
    begins_label false t =
        let room = ltb-false (length old) (length new) t in
        record { wrote = wrote_same refl (printed_by_lem e) (wrote_all {fault = None} new old refl room refl (sym (sets-front old new room))); progress = progress_by_lem e }

  pub begins : {r : Result (Conversion × ℕ) Unwritten} {out : List ℕ} → Began b old r out → Begins b old (begun_for r) out
  unfolding written stored
  begins {r} {out} g = go (zeroth_of b) refl
    where
      go : (z : Result Zeroth Refusal) → zeroth_of b ≡ z → Begins b old (begun_for r) out
      go (Ok label) e = rw ((began_by e g).0, (began_by e g).1) (begins_label e (ltb (length old) (length (new e))) refl)
      go (Err refusal) e =
          rw ((began_by e g).0, (began_by e g).1)
          (record { wrote = wrote_same refl (printed_by_lem e) (wrote_all {fault = None} [] old refl (omega arith) refl refl); progress = progress_by_lem e })

-- ---- the end

module _ (block : ℕ) (rest : List ℕ) where
  pub told_refused : {e : Option Refusal} {refusal : Refusal} → e ≡ Some refusal → told (ending_by block e rest) ≡ refused_line (number_of refusal) block
  told_refused e = ap (λ (e : Option Refusal). told (ending_by block e rest)) e

  pub told_whole : {e : Option Refusal} → e ≡ None → length rest ≡ 0 → told (ending_by block e rest) ≡ []
  told_whole e h = ap (λ (e : Option Refusal). told (ending_by block e rest)) e ∙ go rest h
    where
      go : (rest : List ℕ) → length rest ≡ 0 → told (ending_by block None rest) ≡ []
      go [] h = refl
      go (c ∷ rest) h = absurd (omega arith)

  pub told_part : {e : Option Refusal} → e ≡ None → 1 ≤ length rest → told (ending_by block e rest) ≡ refused_line (number_of Incomplete) block
  told_part e h = ap (λ (e : Option Refusal). told (ending_by block e rest)) e ∙ go rest h
    where
      go : (rest : List ℕ) → 1 ≤ length rest → told (ending_by block None rest) ≡ refused_line (number_of Incomplete) block
      go [] h = absurd (omega arith)
      go (c ∷ rest) h = refl

-- ---- the whole blocks of a piece

-- a run that goes on
pub not_ended : (e : Option Refusal) → is_some e ≡ false → e ≡ None
not_ended None h = refl
not_ended (Some refusal) h = cc

module _ (p : Progress) (part piece : List ℕ) where
  -- by how the run stands
  pub took_by_lem : (room : ℕ) {e : Option Refusal} → p.ended ≡ e → took_of p part piece room ≡ fitting_by ecnforms (standing p part) e piece room
  unfolding took_of
  took_by_lem room e = ap (λ (e : Option Refusal). fitting_by ecnforms (standing p part) e piece room) e

  -- by what is taken and what is refused
  takes_by : (old : List ℕ) {w : Took Kept} {fault : Option Refusal} {r : Taken} {kept out : List ℕ} → took_of p part piece (length old) ≡ w → piece_fault p part p.ended ≡ fault
      → Wrote fault w.printed.out old r.answer out → TakenBy p part (carried_with p part piece w.taken) w fault r kept → Takes p part piece old r kept out
  takes_by old {w} {fault} {r} {kept} {out} q f wrote taken = record {
    wrote = wrote_same (sym f) (ap (λ (w : Took Kept). w.printed.out) (sym q)) wrote;
    taken = subst⁻¹ (λ (w : Took Kept). TakenBy p part (carried_with p part piece w.taken) w (piece_fault p part p.ended) r kept) q
        (subst⁻¹ (λ (fault : Option Refusal). TakenBy p part (carried_with p part piece w.taken) w fault r kept) f taken);
  }

  -- nothing is taken after a refusal
  pub takes_none : (old : List ℕ) → p.block < 2 ^ 64 → is_some p.ended ≡ true
      → Takes p part piece old (record { answer = Ok 0; bytes = 0; progress = p }) part old
  unfolding carried_with carried_over
  takes_none old small ended = go p.ended refl ended
    where
      go : (e : Option Refusal) → p.ended ≡ e → is_some e ≡ true → Takes p part piece old (record { answer = Ok 0; bytes = 0; progress = p }) part old
      go None e h = cc
      go (Some refusal) e h =
          let same : p.block ≡ number_after p.block 0 = omega arith in
          takes_by old (took_by_lem (length old) e) (ap (piece_fault p part) e) (wrote_all {fault = None} [] old refl (omega arith) refl refl)
          (omega arith, λ i. record { conversion = p.conversion; block = same i; ended = e i }, refl)

  module _ (e : p.ended ≡ None) (old : List ℕ) where
    fault_by_lem : {g : Bool} → sound p.conversion part ≡ g → piece_fault p part p.ended ≡ cond g None (Some Malformed)
    unfolding close_fault
    fault_by_lem h = ap (piece_fault p part) e ∙ ap (λ (g : Bool). cond g None (Some Malformed)) h

    pub takes_malformed : sound p.conversion part ≡ false → Takes p part piece old (record { answer = Err (Unwritten.Refused Malformed); bytes = 0; progress = p }) part old
    takes_malformed h = let w = took_of p part piece (length old) in takes_by old refl (fault_by_lem h) (wrote_refused w.printed.out old refl) (refl, refl, refl)

    pub takes_some : sound p.conversion part ≡ true → {c : Conversion} {bytes used number : ℕ} {after : Option Refusal} {kept out : List ℕ}
        → Fitted p.conversion part piece old c bytes used after kept out → number ≡ number_after p.block (bytes / block_bytes)
        → Takes p part piece old (record { answer = Ok used; bytes = bytes; progress = record { conversion = c; block = number; ended = after } }) kept out
    unfolding carried_with
    takes_some h {c} {bytes} {used} {number} {after} {kept} {out} f s =
        let w = fitting ecnforms p.block (whole_in piece) (kept_of p.conversion part) (length old) in
        let r = f.reached p.block in
        let many : bytes / block_bytes ≡ w.taken = omega (arith, r.taken) in
        let state : carries c kept ≡ carried_over (carries p.conversion part) (take w.taken (whole_in piece)) =
        sym f.carried ∙ ap (λ (n : ℕ). carried_over (carries p.conversion part) (take n (whole_in piece))) many in
        let over : after ≡ w.refusal = sym r.refusal in
        let block : number ≡ number_after p.block w.taken = s ∙ ap (number_after p.block) many in
        let fits = (fitting_fits Kept ecnforms p.block (whole_in piece) (kept_of p.conversion part) (length old)).0 in
        takes_by old (took_by_lem (length old) e) (fault_by_lem h) (wrote_all {fault = None} w.printed.out old refl fits (sym r.long) r.stores)
        (sym r.taken, λ i. record { conversion = (state i).conversion; block = block i; ended = over i }, ap (λ (s : Carried). s.part) state)
