-- The hypotheses of the theorems on a table can be met: a table and calls on it, and what they meet, by theorem.
use Rattle.std.specs.Prelude.{◌≡◌, true, List, [], ◌∷◌, ℕ, ◌-◌, ◌^◌, ◌<◌, ltb, pos, get_or, None}
use Rattle.answers.specs.declared.Refusal.TheVariants.{Full, Limits}
use Rattle.source.specs.Arrivals.{extended}
use Rattle.sources.specs.declared.Place.{Place}
use Rattle.sources.specs.declared.Arrived.TheVariants.{Refused}
use Rattle.sources.specs.declared.Counted.TheVariants.{Refused as NotCounted}
use Rattle.sources.specs.Places.{empty_place}
use Rattle.sources.specs.Rules.{fault}
use Rattle.sources.specs.Stands.{new_to}
use Rattle.sources.specs.Answers.{refusal, count_answer}
use Rattle.sources.specs.Theorems.{Arrival, answer, behind_one, taken, places_suffice, Wires}

-- three places, of which one is held: number 65535 of source 7 came, with mark 2
abbrev pub some_table : List Place
some_table =
    record {
      ssrc = 7;
      source = record {
        base = extended (pos 65535);
        highest = extended (pos 65535);
        notect = 0;
        ect1 = 0;
        ect0 = 1;
        ce = 0;
        duplicates = 0;
        history = record { recent = 1; older = 0 };
        remembered = None;
      };
    }
    ∷ empty_place
    ∷ empty_place
    ∷ []

abbrev pub calling : ℕ → ℕ → ℕ → Arrival
calling ssrc number mark = record { ssrc = ssrc; wire = record { 0 = number }; mark = mark }

-- a new source below 7, and the next number of source 7
abbrev pub lower : Arrival
lower = calling 3 100 1

abbrev pub next : Arrival
next = calling 7 0 3

-- with them a jump, a mark above 3, a source that takes the last place, and one that finds none
abbrev pub some_calls : List Arrival
some_calls = lower ∷ calling 7 30000 2 ∷ next ∷ calling 3 101 4 ∷ calling 9 5 0 ∷ calling 11 5 0 ∷ []

-- one record of a block: number 100, mark 2
abbrev pub some_bytes : List ℕ
some_bytes = 0 ∷ 0 ∷ 0 ∷ 0 ∷ 0 ∷ 100 ∷ 2 ∷ 0 ∷ []

-- a place whose record has counted all that it may: number 0, 2^48 times
abbrev pub full_table : List Place
full_table =
    record {
      ssrc = 7;
      source = record {
        base = extended (pos 0);
        highest = extended (pos 0);
        notect = 0;
        ect1 = 0;
        ect0 = 2 ^ 48;
        ce = 0;
        duplicates = 2 ^ 48 - 1;
        history = record { recent = 1; older = 0 };
        remembered = None;
      };
    }
    ∷ []

pub record Met : Type 0 where
  -- RefusalLeaves with 8, BlockRefusalLeaves with 10
  pub all_counted : answer full_table next ≡ Refused Full
  pub no_records : count_answer some_table 3 8 [] ≡ NotCounted Limits
  -- ArrivalKeepsRules, BlockKeepsRules
  pub good : fault some_table ≡ None
  pub wire : lower.wire.0 < 65536
  pub bytes : (i : ℕ) → get_or some_bytes i 0 < 256
  -- NewIsPutIn, OthersKeep
  pub free : refusal (ltb 3 1) 3 some_table ≡ None
  pub new : new_to 3 some_table ≡ true
  -- EitherOrder
  pub lower_first : taken (answer some_table lower) ≡ true
  pub next_second : taken (answer (behind_one some_table lower) next) ≡ true
  pub next_first : taken (answer some_table next) ≡ true
  pub lower_second : taken (answer (behind_one some_table next) lower) ≡ true
  -- EachSourceAlone
  pub wires : Wires some_calls
  pub suffice : places_suffice 7 some_table some_calls ≡ true
