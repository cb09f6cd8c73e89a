-- Whether a record can be reported. Assumes nothing.
use Rattle.std.specs.Prelude.{Some, None, Result, Ok, Err, ℤ}
use mathlib.Core.Path.{◌≡◌, refl, subst, sym, ap}
use mathlib.Core.Bool.{Bool, true, false, cond, not}
use Rattle.answers.specs.declared.Refusal.TheVariants.{Malformed}
use Rattle.source.specs.declared.Source.{Source}
use Rattle.source.specs.Record.{sound, lost, lost_answer}
use Rattle.answers.specs.declared.Refusal.{Refusal}
use Rattle.report.specs.declared.carried.Carried.{Carried}
use Rattle.report.specs.Carried.{highest_of, counts_of, carried_of}
use Rattle.report.specs.Reports.{fault}

module _ (s : Source) where
  pub fault_none : sound s ≡ true → fault s ≡ None
  unfolding fault
  fault_none e = rw e

  -- what is refused is refused as malformed, and what is carried is the record's
  Told : Result Carried Refusal → Type 0
  Told (Ok carried) = (fault s ≡ None) × (carried ≡ record { highest = highest_of s; counts = counts_of s })
  Told (Err refusal) = (fault s ≡ Some refusal) × (refusal ≡ Malformed)

  told : Told (carried_of s)
  unfolding carried_of fault Told
  told = go (sound s) refl
    where
      go : (b : Bool) → sound s ≡ b → Told (cond b (Ok (record { highest = highest_of s; counts = counts_of s })) (Err Malformed))
      go true g = (fault_none g, refl)
      go false g = (rw g, refl)

  pub carried_fault : {r : Refusal} → carried_of s ≡ Err r → fault s ≡ Some r
  unfolding Told
  carried_fault e = (subst Told e told).0

  pub carried_fits : {carried : Carried} → carried_of s ≡ Ok carried → fault s ≡ None
  unfolding Told
  carried_fits e = (subst Told e told).0

  pub carried_is : {carried : Carried} → carried_of s ≡ Ok carried → carried ≡ record { highest = highest_of s; counts = counts_of s }
  unfolding Told
  carried_is e = (subst Told e told).1

  -- a record that is not sound has no lost packets to tell
  pub carried_refused : {r : Refusal} → lost_answer s ≡ Err r → Err r ≡ carried_of s
  unfolding lost_answer carried_of
  carried_refused {r} e = go (sound s) e
    where
      passed : Result ℤ Refusal → Result Carried Refusal
      passed (Ok n) = Ok (record { highest = highest_of s; counts = counts_of s })
      passed (Err r) = Err r

      all : Result Carried Refusal
      all = Ok (record { highest = highest_of s; counts = counts_of s })

      go : (b : Bool) → cond (not b) (Err Malformed) (Ok (lost s)) ≡ Err r → Err r ≡ cond b all (Err Malformed)
      go true e = sym (ap passed e)
      go false e = sym (ap passed e)
