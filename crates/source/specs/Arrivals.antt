-- What one arrival does to a record (document 01, "Counting arrivals"). Marks: 0 not-ECT, 1 ECT(1), 2 ECT(0), 3 CE (RFC 3168).
use Rattle.std.specs.Prelude.{ℕ, ◌+◌, ◌%◌, ◌^◌, Bool, false, cond, not, eqb, leb, ltb, ℤ, pos, ◌+ℤ◌, ◌-ℤ◌, Option, Some, None}
use Rattle.numbers.specs.Integers.{modulo}
use Rattle.answers.specs.declared.Refusal.TheVariants.{Jump, Full, Malformed, Limits}
use Rattle.format.specs.declared.Wire.{Wire}
use Rattle.source.specs.declared.Extended.{Extended}
use Rattle.source.specs.declared.History.{History}
use Rattle.source.specs.declared.Source.{Source}
use Rattle.source.specs.declared.Arrival.{Arrival}
use Rattle.source.specs.declared.Arrival.TheVariants.{Accepted, Restarted, Refused}
use Rattle.source.specs.declared.distances.Reach.{Reach}
use Rattle.source.specs.declared.distances.Reach.TheVariants as reach
use Rattle.source.specs.Places.{bit, history, marks, moved, added}
use Rattle.source.specs.Record.{arrivals, fresh_record, fresh, sound}
use Rattle.source.specs.Distances.{reach_of}

abbrev pub extended : ℤ → Extended
extended z = record { 0 = z }

-- the record after an accepted arrival: its mark counted; base, highest, duplicates and history as given; no number remembered
unfoldable pub counted : Source → ℕ → Extended → Extended → ℕ → History → Source
counted s mark base highest duplicates past = record {
  base = base;
  highest = highest;
  notect = s.notect + bit (eqb mark 0);
  ect1 = s.ect1 + bit (eqb mark 1);
  ect0 = s.ect0 + bit (eqb mark 2);
  ce = s.ce + bit (eqb mark 3);
  duplicates = duplicates;
  history = past;
  remembered = None;
}

-- the first arrival sets base and highest to its wire number
unfoldable pub first : Source → Wire → ℕ → Source
first s wire mark = counted s mark (extended (pos wire.0)) (extended (pos wire.0)) 0 (history (λ k. eqb k 0))

-- the extended number is highest + d, the new highest
unfoldable pub ahead : Source → ℕ → ℕ → Source
ahead s d mark =
    counted s mark s.base (extended (s.highest.0 +ℤ pos d)) s.duplicates (history (added 0 (moved d (marks s.history))))

-- the extended number is highest - k: a duplicate if that number has arrived before
unfoldable pub behind : Source → ℕ → ℕ → Source
behind s k mark =
    counted s mark s.base s.highest (s.duplicates + bit (marks s.history k)) (history (added k (marks s.history)))

-- d = (wire number minus highest) modulo 65,536
unfoldable pub distance : Extended → Wire → ℕ
distance highest wire = modulo 65536 (pos wire.0 -ℤ highest.0)

-- ---- a jump (document 02, L5; RFC 3550, appendix A.1, where the remembered number is bad_seq)

-- whether a wire number is the one that is remembered
abbrev pub is_remembered : Option Wire → Wire → Bool
is_remembered None wire = false
is_remembered (Some number) wire = eqb wire.0 number.0

-- the wire number after this one
abbrev pub next : Wire → Wire
next wire = record { 0 = (wire.0 + 1) % 65536 }

-- the record with a number remembered, and all else as it was
unfoldable pub remembering : Source → Wire → Source
remembering s number = record {
  base = s.base;
  highest = s.highest;
  notect = s.notect;
  ect1 = s.ect1;
  ect0 = s.ect0;
  ce = s.ce;
  duplicates = s.duplicates;
  history = s.history;
  remembered = Some number;
}

-- a jump that has the remembered number is a restart: all begins again, as at a first arrival, with it as the first; any other is 7, and the
-- number that would follow it is remembered
unfoldable pub jumped : Source → Wire → ℕ → Arrival
jumped s wire mark =
    cond (is_remembered s.remembered wire) (Restarted (first fresh_record wire mark))
    (Refused Jump (remembering s (next wire)))

-- ---- the answer

-- a later arrival, by where it stands; a jump is 7 or a restart
abbrev pub later_by : Source → Wire → ℕ → Reach → Arrival
later_by s wire mark (reach.Ahead d) = Accepted (ahead s d mark)
later_by s wire mark (reach.Behind k) = Accepted (behind s k mark)
later_by s wire mark reach.Jump = jumped s wire mark

abbrev pub later : Source → Wire → ℕ → Arrival
later s wire mark = later_by s wire mark (reach_of (distance s.highest wire))

-- the answer to an arrival: refusals in the order 9, 10, 8, 7
unfoldable pub arrival : Source → Wire → ℕ → Arrival
arrival s wire mark =
    cond (not (sound s)) (Refused Malformed s)
    (cond (ltb 3 mark) (Refused Limits s)
    (cond (leb (2 ^ 48) (arrivals s)) (Refused Full s)
    (cond (fresh s) (Accepted (first s wire mark))
    (later s wire mark))))

-- the record that an answer hands back
abbrev pub after : Arrival → Source
after (Accepted s) = s
after (Restarted s) = s
after (Refused refusal s) = s
