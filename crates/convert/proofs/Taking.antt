-- The call on a piece, case by case. Assumes nothing.
use Rattle.std.specs.Prelude.{Option, Some, None, Ok, Err}
use Rattle.answers.specs.declared.Unwritten.{Unwritten}
use mathlib.Core.Path.{◌≡◌, refl, sym, ap, ◌∙◌}
use mathlib.Core.Bool.{true, false}
use mathlib.Core.List.{List, []}
use Prim.Native.Nat.{ℕ, ◌/◌, ◌^◌, ◌<◌}
use native.Mathlib.Omega.{arith}
use lib.ListN.{length}
use Rattle.answers.specs.Writers.{Wrote}
use Rattle.answers.specs.declared.Refusal.{Refusal}
use Rattle.answers.specs.declared.Refusal.TheVariants.{Malformed}
use Rattle.answers.proofs.Stores.{wrote_all, wrote_refused}
use Rattle.format.specs.Blocks.{block_bytes}
use Rattle.walk.specs.Pieces.{whole_in}
use Rattle.walk.specs.Fitting.{Took, fitting}
use Rattle.walk.specs.Endings.{number_after}
use Rattle.walk.specs.Machines.{fitting_by}
use Rattle.walk.proofs.Fits.{fitting_fits}
use Rattle.convert.specs.declared.Run.{Run}
use Rattle.convert.specs.declared.pieces.Progress.{Progress}
use Rattle.convert.specs.declared.pieces.Taken.{Taken}
use Rattle.convert.specs.Runs.{sound_run}
use Rattle.convert.specs.Tables.{Kept, ecntable}
use Rattle.convert.specs.Pieces.{standing, took_of, piece_fault, TakenBy, Takes, Fitted}

pub took_going : (p : Progress) (zeroth piece : List ℕ) (room : ℕ) → p.ended ≡ None
    → took_of p zeroth piece room ≡ fitting ecntable p.block (whole_in piece) (record { run = p.run; zeroth = zeroth }) room
unfolding took_of
took_going p zeroth piece room e = ap (λ (e : Option Refusal). fitting_by ecntable (standing p zeroth) e piece room) e

module _ (p : Progress) (zeroth piece old : List ℕ) where
  -- what is taken, by how the run stands
  took_by_lem : {e : Option Refusal} → p.ended ≡ e → took_of p zeroth piece (length old) ≡ fitting_by ecntable (standing p zeroth) e piece (length old)
  unfolding took_of
  took_by_lem e = ap (λ (e : Option Refusal). fitting_by ecntable (standing p zeroth) e piece (length old)) e

  takes_by : {fault : Option Refusal} {w : Took Kept} {r : Taken} {out : List ℕ} → piece_fault p zeroth p.ended ≡ fault → took_of p zeroth piece (length old) ≡ w
      → Wrote fault w.printed.out old r.answer out → TakenBy p w fault r → Takes p zeroth piece old r out
  takes_by f e w t = record { wrote = rw (f, e) w; taken = rw (f, e) t }

  -- after a refusal
  pub takes_over : {refusal : Refusal} → p.block < 2 ^ 64 → p.ended ≡ Some refusal → Takes p zeroth piece old (record { answer = Ok 0; bytes = 0; progress = p }) old
  takes_over {refusal} small e =
      let same : p.block ≡ number_after p.block 0 = omega arith in
      takes_by (ap (piece_fault p zeroth) e) (took_by_lem e) (wrote_all [] old refl (omega arith) refl refl)
      (omega arith, λ i. record { run = p.run; block = same i; ended = e i })

  module _ (going : p.ended ≡ None) where
    pub takes_malformed : sound_run p.run zeroth ≡ false → Takes p zeroth piece old (record { answer = Err (Unwritten.Refused Malformed); bytes = 0; progress = p }) old
    takes_malformed e =
        takes_by (ap (piece_fault p zeroth) going ∙ rw e) (took_by_lem going)
        (wrote_refused (fitting ecntable p.block (whole_in piece) (record { run = p.run; zeroth = zeroth }) (length old)).printed.out old refl) (refl, refl)

    pub takes_fitted : sound_run p.run zeroth ≡ true → {run : Run} {bytes used block : ℕ} {e : Option Refusal} {out : List ℕ}
        → Fitted p.run zeroth piece old run bytes used e out → block ≡ number_after p.block (bytes / block_bytes)
        → Takes p zeroth piece old (record { answer = Ok used; bytes = bytes; progress = record { run = run; block = block; ended = e } }) out
    takes_fitted sound {run} {bytes} {used} {block} {e} {out} f b =
        let s : Kept = record { run = p.run; zeroth = zeroth } in
        let w = fitting ecntable p.block (whole_in piece) s (length old) in
        let r = f p.block in
        let fits = (fitting_fits Kept ecntable p.block (whole_in piece) s (length old)).0 in
        let many : bytes / block_bytes ≡ w.taken = omega (arith, r.taken) in
        let number : block ≡ number_after p.block w.taken = b ∙ ap (number_after p.block) many in
        let how : e ≡ w.refusal = sym r.refusal in
        let state : run ≡ w.state.run = sym (ap (λ (k : Kept). k.run) r.state) in
        takes_by (ap (piece_fault p zeroth) going ∙ rw sound) (took_by_lem going) (wrote_all w.printed.out old refl fits (sym r.long) r.stores)
        (sym r.taken, λ i. record { run = state i; block = number i; ended = how i })
