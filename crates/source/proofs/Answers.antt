-- The answer to an arrival, case by case. Assumes nothing.
use mathlib.Core.Path.{◌≡◌, refl, ◌∙◌}
use mathlib.Core.Bool.{Bool, true, false, cond}
use Prim.Native.Nat.{ℕ, ◌^◌, ◌≤◌, ◌<◌}
use native.Mathlib.Decide.{dec_le}
use native.Mathlib.Omega.{arith}
use borrow.Author.Tests.{lt-ltb, le-ltb, le-leb, lt-leb, eq-eqb, ne_eqb}
use Rattle.answers.specs.declared.Refusal.TheVariants.{Jump, Full, Malformed, Limits}
use Rattle.format.specs.declared.Wire.{Wire}
use Rattle.source.specs.declared.Source.{Source}
use Rattle.source.specs.declared.Arrival.{Arrival}
use Rattle.source.specs.declared.Arrival.TheVariants.{Accepted, Restarted, Refused}
use Rattle.source.specs.declared.distances.Reach.{Reach}
use Rattle.source.specs.declared.distances.Reach.TheVariants as reach
use Rattle.source.specs.Distances.{reach_of}
use Rattle.source.specs.Record.{arrivals, fresh_record, sound}
use Rattle.source.specs.Arrivals.{first, ahead, behind, distance, is_remembered, next, remembering, jumped, later_by, later, arrival}
use Rattle.source.proofs.Facts.{fresh_is}

-- ---- each answer with what led to it

-- a mark of at most 3, and room for one arrival more
pub record Counts (s : Source) (mark : ℕ) : Type 0 where
  pub good : sound s ≡ true
  pub mark_fits : mark ≤ 3
  pub room : arrivals s < 2 ^ 48

-- there were arrivals before, and this one stands so
pub record Stands (s : Source) (wire : Wire) (mark : ℕ) (r : Reach) : Type 0 where
  pub counts : Counts s mark
  pub some : 1 ≤ arrivals s
  pub reached : reach_of (distance s.highest wire) ≡ r

pub data Answered (s : Source) (wire : Wire) (mark : ℕ) : Arrival → Type 0 where
  malformed : Answered s wire mark (Refused Malformed s)
  limits : Answered s wire mark (Refused Limits s)
  full : Answered s wire mark (Refused Full s)
  was_first : Counts s mark → arrivals s ≡ 0 → Answered s wire mark (Accepted (first s wire mark))
  was_ahead : (d : ℕ) → Stands s wire mark (reach.Ahead d) → Answered s wire mark (Accepted (ahead s d mark))
  was_behind : (k : ℕ) → Stands s wire mark (reach.Behind k) → Answered s wire mark (Accepted (behind s k mark))
  restarted : Stands s wire mark reach.Jump → Answered s wire mark (Restarted (first fresh_record wire mark))
  jump : Stands s wire mark reach.Jump → Answered s wire mark (Refused Jump (remembering s (next wire)))

module _ (s : Source) (wire : Wire) (mark : ℕ) where
  pub arrival_malformed : sound s ≡ false → arrival s wire mark ≡ Refused Malformed s
  unfolding arrival
  arrival_malformed e = rw e

  pub arrival_mark : sound s ≡ true → 3 < mark → arrival s wire mark ≡ Refused Limits s
  unfolding arrival
  arrival_mark e h = rw (e, lt-ltb 3 mark h)

  pub arrival_full : sound s ≡ true → mark ≤ 3 → 2 ^ 48 ≤ arrivals s → arrival s wire mark ≡ Refused Full s
  unfolding arrival
  arrival_full e h l = rw (e, le-ltb 3 mark h, le-leb (2 ^ 48) (arrivals s) l)

  pub arrival_first : sound s ≡ true → mark ≤ 3 → arrivals s ≡ 0 → arrival s wire mark ≡ Accepted (first s wire mark)
  unfolding arrival
  arrival_first e h z = rw (e, le-ltb 3 mark h, lt-leb (2 ^ 48) (arrivals s) (omega arith), fresh_is s e ∙ eq-eqb (arrivals s) 0 z)

  pub arrival_later : sound s ≡ true → mark ≤ 3 → 1 ≤ arrivals s → arrivals s < 2 ^ 48 → arrival s wire mark ≡ later s wire mark
  unfolding arrival
  arrival_later e h p l = rw (e, le-ltb 3 mark h, lt-leb (2 ^ 48) (arrivals s) l, fresh_is s e ∙ ne_eqb (arrivals s) 0 (λ z. omega arith))

  answered_later : (r : Reach) → Stands s wire mark r → Answered s wire mark (later_by s wire mark r)
  unfolding jumped
  answered_later (reach.Ahead d) t = was_ahead d t
  answered_later (reach.Behind k) t = was_behind k t
  answered_later reach.Jump t = go (is_remembered s.remembered wire)
    where
      go : (b : Bool) → Answered s wire mark (cond b (Restarted (first fresh_record wire mark)) (Refused Jump (remembering s (next wire))))
      go true = restarted t
      go false = jump t

  pub answered : Answered s wire mark (arrival s wire mark)
  answered = go (sound s) refl (dec_le mark 3) (dec_le (2 ^ 48) (arrivals s)) (dec_le 1 (arrivals s))
    where
      go : (b : Bool) → sound s ≡ b → Dec (mark ≤ 3) → Dec (2 ^ 48 ≤ arrivals s) → Dec (1 ≤ arrivals s) → Answered s wire mark (arrival s wire mark)
      go false e m n k = rw (arrival_malformed e) malformed
      go true e (no m) n k = rw (arrival_mark e (omega arith)) limits
      go true e (yes m) (yes n) k = rw (arrival_full e m n) full
      go true e (yes m) (no n) (no k) = rw (arrival_first e m (omega arith)) (was_first (record { good = e; mark_fits = m; room = omega arith }) (omega arith))
      go true e (yes m) (no n) (yes k) =
          rw (arrival_later e m k (omega arith))
          (answered_later (reach_of (distance s.highest wire)) (record { counts = record { good = e; mark_fits = m; room = omega arith }; some = k; reached = refl }))
