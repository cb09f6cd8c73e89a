-- Document 01, "Trace file" and "Refusal numbers", and request L14: what the writers of a block are given, and when they refuse it with 10 or 19.
use Rattle.std.specs.Prelude.{ℕ, ◌/◌, ◌%◌, Bool, cond, not, List, [], ◌∷◌, length, ◌==◌, Option, Some, None}
use Rattle.answers.specs.declared.Refusal.{Refusal}
use Rattle.answers.specs.declared.Refusal.TheVariants.{Limits, Retired}
use Rattle.answers.specs.Conditions.{all}
use Rattle.format.specs.Forms.{Shape, width}
use Rattle.trace.specs.Contents.{every, is_mark, is_time, label_ok, count_ok, good_records}
use Rattle.trace.specs.Retired.{retired_in}
use Rattle.trace.specs.declared.Record.{Record}

-- a label with a retired byte: 19
abbrev pub retired_fault : List ℕ → Option Refusal
retired_fault label = cond (retired_in label == 0) None (Some Retired)

-- a label outside the trace rules: 10, and then 19
unfoldable pub label_fault : List ℕ → Option Refusal
label_fault label = cond (not (label_ok label)) (Some Limits) (retired_fault label)

-- the records of three lists: times, wire numbers and marks
unfoldable pub records_of : List ℕ → List ℕ → List ℕ → List Record
records_of [] numbers marks = []
records_of (t ∷ times) [] marks = []
records_of (t ∷ times) (n ∷ numbers) [] = []
records_of (t ∷ times) (n ∷ numbers) (m ∷ marks) = record { time = t; number = record { 0 = n }; mark = m } ∷ records_of times numbers marks

-- lists of one length that a block may have, times of the form and marks of 0 to 3
abbrev pub lists_conditions : Shape → List ℕ → List ℕ → List ℕ → List Bool
lists_conditions shape times numbers marks =
    (length numbers == length times) ∷ (length marks == length times) ∷ count_ok shape (length times) ∷ every (is_time shape) times ∷ every is_mark marks ∷ []

unfoldable pub arrivals_ok : Shape → List ℕ → List ℕ → List ℕ → Bool
arrivals_ok shape times numbers marks = all (lists_conditions shape times numbers marks)

-- records outside the trace rules: 10
unfoldable pub arrivals_fault : Shape → List ℕ → List ℕ → List ℕ → Option Refusal
arrivals_fault shape times numbers marks = cond (arrivals_ok shape times numbers marks) None (Some Limits)

-- ---- records as a body has them

-- whole records, as many as a block may have, each with a mark and then a zero
abbrev pub body_conditions : Shape → List ℕ → List Bool
body_conditions shape s =
    (length s % width shape == 0) ∷ count_ok shape (length s / width shape) ∷ good_records shape (length s / width shape) s ∷ []

unfoldable pub body_ok : Shape → List ℕ → Bool
body_ok shape s = all (body_conditions shape s)

-- bytes outside the trace rules: 10
unfoldable pub body_fault : Shape → List ℕ → Option Refusal
body_fault shape s = cond (body_ok shape s) None (Some Limits)

-- a number of records outside the trace rules: 10
unfoldable pub count_fault : Shape → ℕ → Option Refusal
count_fault shape n = cond (count_ok shape n) None (Some Limits)
