-- What is remembered after an arrival, and the record after a restart. Assumes nothing.
use mathlib.Core.Path.{◌≡◌, refl, ap, ◌∙◌}
use mathlib.Core.Bool.{true, cond}
use Prim.Native.Nat.{ℕ, ◌+◌, ◌%◌, ◌≤◌}
use native.Mathlib.Omega.{arith}
use borrow.Author.Tests.{lt-ltb, eq-eqb}
use lib.Dec.{eqb}
use Rattle.answers.specs.Refusals.{number_of}
use Rattle.answers.specs.declared.Refusal.TheVariants.{Jump}
use Rattle.format.specs.declared.Wire.{Wire}
use Rattle.source.specs.declared.Source.{Source}
use Rattle.source.specs.declared.Arrival.{Arrival}
use Rattle.source.specs.declared.Arrival.TheVariants.{Accepted, Restarted, Refused}
use Rattle.source.specs.declared.distances.Reach.TheVariants as reach
use Rattle.source.specs.Distances.{reach_of}
use Rattle.source.specs.Record.{wire_number, fresh_record}
use Rattle.source.specs.Arrivals.{counted, first, ahead, behind, distance, next, remembering, jumped, later_by, arrival, after}
use Rattle.source.specs.Theorems.{TypedStays, RestartsAfresh, SecondRestarts, RefusalKeeps}
use Rattle.source.proofs.Facts.{fresh_sound, some_has_counted}
use Rattle.source.proofs.Kept.{remembering_sound}
use Rattle.source.proofs.Answers.{Answered, malformed, limits, full, was_first, was_ahead, was_behind, restarted, jump, Stands, answered, arrival_first, arrival_later}

pub typed_stays : TypedStays
unfolding counted first ahead behind remembering
typed_stays s wire mark e = go (arrival s wire mark) (answered s wire mark)
  where
    go : (a : Arrival) → Answered s wire mark a → wire_number (after a).remembered ≡ true
    go a malformed = e
    go a limits = e
    go a full = e
    go a (was_first c z) = refl
    go a (was_ahead d t) = refl
    go a (was_behind k t) = refl
    go a (restarted t) = refl
    go a (jump t) = lt-ltb ((wire.0 + 1) % 65536) 65536 (omega arith)

pub restarts_afresh : RestartsAfresh
restarts_afresh s t wire mark e = rw e at (go (arrival s wire mark) (answered s wire mark))
  where
    Afresh : Arrival → Type 0
    Afresh (Restarted t) = arrival fresh_record wire mark ≡ Accepted t
    Afresh (Accepted t) = Unit {0}
    Afresh (Refused refusal t) = Unit {0}

    go : (a : Arrival) → Answered s wire mark a → Afresh a
    go a malformed = tt
    go a limits = tt
    go a full = tt
    go a (was_first c z) = tt
    go a (was_ahead d u) = tt
    go a (was_behind k u) = tt
    go a (restarted u) = arrival_first fresh_record wire mark fresh_sound u.counts.mark_fits refl
    go a (jump u) = tt

-- the jump's record has the number after it, which is then the one remembered
module _ (s : Source) (wire : Wire) (mark other : ℕ) (m : other ≤ 3) (far : reach_of (distance s.highest (next wire)) ≡ reach.Jump) where
  next_restarts : Stands s wire mark reach.Jump → arrival (remembering s (next wire)) (next wire) other ≡ Restarted (first fresh_record (next wire) other)
  unfolding remembering jumped
  next_restarts u =
      let t = remembering s (next wire) in
      let good = remembering_sound s (next wire) (some_has_counted s u.counts.good u.some) in
      arrival_later t (next wire) other good m u.some u.counts.room
      ∙ ap (later_by t (next wire) other) far
      ∙ rw (eq-eqb (next wire).0 (next wire).0 refl)

pub second_restarts : SecondRestarts
second_restarts s t wire mark other e far m = (rw e at (go (arrival s wire mark) (answered s wire mark))) refl
  where
    Restarts : Arrival → Type 0
    Restarts (Refused refusal t) = refusal ≡ Jump → arrival t (next wire) other ≡ Restarted (first fresh_record (next wire) other)
    Restarts (Accepted t) = Unit {0}
    Restarts (Restarted t) = Unit {0}

    go : (a : Arrival) → Answered s wire mark a → Restarts a
    go a malformed = λ q. let z : ◌≡◌ {A = ℕ} 0 1 = cc in absurd (omega arith)
    go a limits = λ q. let z : ◌≡◌ {A = ℕ} 0 1 = cc in absurd (omega arith)
    go a full = λ q. let z : ◌≡◌ {A = ℕ} 0 1 = cc in absurd (omega arith)
    go a (was_first c z) = tt
    go a (was_ahead d u) = tt
    go a (was_behind k u) = tt
    go a (restarted u) = tt
    go a (jump u) = λ q. next_restarts s wire mark other m far u

pub refusal_keeps : RefusalKeeps
refusal_keeps s t wire mark refusal e = rw e at (go (arrival s wire mark) (answered s wire mark))
  where
    Keeps : Arrival → Type 0
    Keeps (Refused refusal t) = t ≡ cond (eqb (number_of refusal) 7) (remembering s (next wire)) s
    Keeps (Accepted t) = Unit {0}
    Keeps (Restarted t) = Unit {0}

    go : (a : Arrival) → Answered s wire mark a → Keeps a
    go a malformed = refl
    go a limits = refl
    go a full = refl
    go a (was_first c z) = tt
    go a (was_ahead d u) = tt
    go a (was_behind k u) = tt
    go a (restarted u) = tt
    go a (jump u) = refl
