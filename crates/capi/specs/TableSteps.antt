-- What is left to do for a call on a table once the table is taken from its words and asked.
use Rattle.std.specs.Prelude.{◌≡◌, ℕ, List, ℤ, length, get_or}
use Rattle.std.proofs.lemmas.List.Edits.{sets}
use Rattle.sources.specs.declared.Table.{Table}
use Rattle.sources.specs.declared.TableArrived.{TableArrived}
use Rattle.sources.specs.declared.Counted.{Counted}
use Rattle.sources.specs.declared.Counted.TheVariants.{Block, Refused}
use Rattle.sources.specs.declared.TableCounted.{TableCounted}
use Rattle.sources.specs.Places.{empty_place, held_of}
use Rattle.sources.specs.Answers.{or_else}
use Rattle.sources.specs.Tables.{lent, fault_in}
use Rattle.lent.specs.TableWords.{place_words, table_words}
use Rattle.capi.specs.Codes.{refusal_code, Gives, Leaves}
use Rattle.capi.specs.Tables.{arrived_code, arrived_words, counted_code, counted_words, unheld, held_code}

-- the next table's words stored over the old ones
abbrev pub stored_over : List ℕ → Table → List ℕ
stored_over words t = sets words 0 (table_words (lent t))

abbrev pub LeavesArrived : TableArrived → List ℕ → ℕ → List ℕ → Type 0
LeavesArrived given words r out = Leaves (arrived_code given.answer) (arrived_words words (stored_over words given.table) given.answer) r out

abbrev pub LeavesCounted : TableCounted → List ℕ → ℤ → List ℕ → Type 0
LeavesCounted given words r out = Leaves (counted_code given.answer) (counted_words words (stored_over words given.table) given.answer) r out

-- the jumps and restarts of a block
abbrev pub jumps_in : Counted → ℕ
jumps_in (Block stand jumps restarts) = jumps
jumps_in (Refused refusal) = 0

abbrev pub restarts_in : Counted → ℕ
restarts_in (Block stand jumps restarts) = restarts
restarts_in (Refused refusal) = 0

abbrev pub GivesHeld : Table → ℕ → List ℕ → ℕ → List ℕ → Type 0
GivesHeld t place old r found =
    Gives refusal_code (or_else (fault_in t) (unheld (lent t) place)) (place_words (get_or (lent t) place empty_place)) old r found

abbrev pub HeldIn : Table → ℤ → Type 0
HeldIn t r = r ≡ held_code (fault_in t) (length (held_of (lent t)))
