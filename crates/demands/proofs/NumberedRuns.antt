-- Number and values tell the answers of the readers and of the runs. Assumes nothing.
use Rattle.std.specs.Prelude.{Option, Some, None, Result, Ok, Err}
use Rattle.answers.specs.declared.Unwritten.{Unwritten}
use mathlib.Core.Path.{◌≡◌, refl, ap}
use mathlib.Core.Bool.{cond}
use Prim.Native.Nat.{ℕ}
use lib.Dec.{eqb}
use Rattle.answers.specs.Refusals.{number_of}
use Rattle.answers.specs.declared.Refusal.{Refusal}
use Rattle.answers.specs.declared.Refusal.TheVariants.{Contents}
use Rattle.format.specs.declared.Form.{Form}
use Rattle.format.specs.Forms.{shape_of}
use Rattle.format.specs.declared.Form.TheVariants.{One, Two}
use Rattle.trace.specs.declared.Record.{Record}
use Rattle.trace.specs.declared.Block.{Block}
use Rattle.trace.specs.declared.Block.TheVariants as block
use Rattle.trace.specs.declared.Zeroth.{Zeroth}
use Rattle.trace.specs.Numbered.{Header, read_as, zeroth_as, later_as, found_as, spaced_as}
use Rattle.convert.specs.declared.Run.{Run}
use Rattle.convert.specs.declared.feeds.FeedAnswer.{FeedAnswer}
use Rattle.convert.specs.declared.feeds.FeedAnswer.TheVariants as answer
use Rattle.convert.specs.Numbered.{begin_as, feed_as}
use Rattle.forms.specs.declared.Conversion.{Conversion}
use Rattle.forms.specs.Numbered.{begin_as as conversionAs}
use Rattle.sdp.specs.declared.Attribute.{Attribute}
use Rattle.sdp.specs.declared.Chosen.{Chosen}
use Rattle.sdp.specs.Numbered.{line_as, negotiated_as}
use Rattle.sdp.specs.Reading.{nothing}
use Rattle.demands.specs.NumberedRuns.{RunAnswersTell, RunRefusalsNumbered}
use Rattle.demands.proofs.NumberedAnswers.{tells, refusal_of, refusal_back}

-- ---- blocks, by the kind: 1 and 2 of form 1, 3 and 4 of form 2

block_by : Option Refusal → Option Header → Result Block Refusal
block_by (Some r) v = Err r
block_by None None = Err Contents
block_by None (Some h) =
    cond (eqb h.kind 1) (Ok (block.Label One h.count h.ssrc))
    (cond (eqb h.kind 2) (Ok (block.Arrivals One h.count h.ssrc))
    (cond (eqb h.kind 3) (Ok (block.Label Two h.count h.ssrc))
    (Ok (block.Arrivals Two h.count h.ssrc))))

block_back : (x : Result Block Refusal) → block_by (refusal_of (read_as x).number) (read_as x).values ≡ x
unfolding refusal_of block_by
block_back (Ok (block.Label One n ssrc)) = refl
block_back (Ok (block.Label Two n ssrc)) = refl
block_back (Ok (block.Arrivals One n ssrc)) = refl
block_back (Ok (block.Arrivals Two n ssrc)) = refl
block_back (Err r) = ap (λ (o : Option Refusal). block_by o None) (refusal_back r)

zeroth_by : Option Refusal → Option Header → Result Zeroth Refusal
zeroth_by (Some r) v = Err r
zeroth_by None None = Err Contents
zeroth_by None (Some h) = cond (eqb h.kind 1) (Ok (record { form = One; length = h.count; ssrc = h.ssrc })) (Ok (record { form = Two; length = h.count; ssrc = h.ssrc }))

form_back : (form : Form) (n ssrc : ℕ) → zeroth_by None (Some (record { kind = (shape_of form).label; count = n; ssrc = ssrc })) ≡ Ok (record { form = form; length = n; ssrc = ssrc })
unfolding zeroth_by
form_back One n ssrc = refl
form_back Two n ssrc = refl

zeroth_back : (x : Result Zeroth Refusal) → zeroth_by (refusal_of (zeroth_as x).number) (zeroth_as x).values ≡ x
unfolding refusal_of zeroth_by
zeroth_back (Ok label) = form_back label.form label.length label.ssrc
zeroth_back (Err r) = ap (λ (o : Option Refusal). zeroth_by o None) (refusal_back r)

later_by : Option Refusal → Option ℕ → Result ℕ Refusal
later_by (Some r) v = Err r
later_by None (Some n) = Ok n
later_by None None = Ok 0

later_back : (x : Result ℕ Refusal) → later_by (refusal_of (later_as x).number) (later_as x).values ≡ x
unfolding refusal_of later_by
later_back (Ok n) = refl
later_back (Err r) = ap (λ (o : Option Refusal). later_by o None) (refusal_back r)

found_by : Option Refusal → Option Record → Result Record Refusal
found_by (Some r) v = Err r
found_by None (Some r) = Ok r
found_by None None = Err Contents

found_back : (x : Result Record Refusal) → found_by (refusal_of (found_as x).number) (found_as x).values ≡ x
unfolding refusal_of found_by
found_back (Ok r) = refl
found_back (Err r) = ap (λ (o : Option Refusal). found_by o None) (refusal_back r)

spaced_by : ℕ → Option Refusal → Option ℕ → Result ℕ Unwritten
spaced_by number (Some r) v = Err (Unwritten.Refused r)
spaced_by number None (Some n) = cond (eqb number 12) (Err (Unwritten.Room n)) (Ok n)
spaced_by number None None = Ok 0

spaced_back : (x : Result ℕ Unwritten) → spaced_by (spaced_as x).number (refusal_of (spaced_as x).number) (spaced_as x).values ≡ x
unfolding refusal_of spaced_by
spaced_back (Ok n) = refl
spaced_back (Err (Unwritten.Room n)) = refl
spaced_back (Err (Unwritten.Refused r)) = ap (λ (o : Option Refusal). spaced_by (number_of r) o None) (refusal_back r)

-- ---- the runs

begin_by : Option Refusal → Option Run → Result Run Refusal
begin_by (Some r) v = Err r
begin_by None (Some run) = Ok run
begin_by None None = Err Contents

begin_back : (x : Result Run Refusal) → begin_by (refusal_of (begin_as x).number) (begin_as x).values ≡ x
unfolding refusal_of begin_by
begin_back (Ok run) = refl
begin_back (Err r) = ap (λ (o : Option Refusal). begin_by o None) (refusal_back r)

feed_by : ℕ → Option Refusal → Option ℕ → Option ℕ → FeedAnswer
feed_by number (Some r) (Some n) (Some b) = answer.Faulty r b n
feed_by number (Some r) None None = answer.Refused r
feed_by number (Some r) None (Some b) = answer.Refused r
feed_by number (Some r) (Some n) None = answer.Refused r
feed_by number None (Some n) b = cond (eqb number 12) (answer.Room n) (answer.Length n)
feed_by number None None b = answer.Length 0

feed_back : (x : FeedAnswer) → feed_by (feed_as x).number (refusal_of (feed_as x).number) (feed_as x).values.0 (feed_as x).values.1 ≡ x
unfolding refusal_of feed_by
feed_back (answer.Length n) = refl
feed_back (answer.Room n) = refl
feed_back (answer.Refused r) = ap (λ (o : Option Refusal). feed_by (number_of r) o None None) (refusal_back r)
feed_back (answer.Faulty r b n) = ap (λ (o : Option Refusal). feed_by (number_of r) o (Some n) (Some b)) (refusal_back r)

conversion_by : ℕ → Option Refusal → Option Conversion → Option ℕ → Result (Conversion × ℕ) Unwritten
conversion_by number (Some r) c n = Err (Unwritten.Refused r)
conversion_by number None (Some c) (Some n) = Ok (c, n)
conversion_by number None (Some c) None = Ok (c, 0)
conversion_by number None None (Some n) = Err (Unwritten.Room n)
conversion_by number None None None = Err (Unwritten.Room 0)

conversion_back : (x : Result (Conversion × ℕ) Unwritten) → conversion_by (conversionAs x).number (refusal_of (conversionAs x).number) (conversionAs x).values.0 (conversionAs x).values.1 ≡ x
unfolding refusal_of conversion_by
conversion_back (Ok (c, n)) = refl
conversion_back (Err (Unwritten.Room n)) = refl
conversion_back (Err (Unwritten.Refused r)) = ap (λ (o : Option Refusal). conversion_by (number_of r) o None None) (refusal_back r)

-- ---- a line of SDP, and an offer

line_by : Option Refusal → Attribute → Result Attribute Refusal
line_by (Some r) a = Err r
line_by None a = Ok a

line_back : (x : Result Attribute Refusal) → line_by (refusal_of (line_as x).number) (line_as x).values ≡ x
unfolding refusal_of line_by
line_back (Ok a) = refl
line_back (Err r) = ap (λ (o : Option Refusal). line_by o nothing) (refusal_back r)

negotiated_by : Option Refusal → Option Chosen → Result (Option Chosen) Refusal
negotiated_by (Some r) v = Err r
negotiated_by None (Some c) = Ok (Some c)
negotiated_by None None = (Ok None)

negotiated_back : (x : Result (Option Chosen) Refusal) → negotiated_by (refusal_of (negotiated_as x).number) (negotiated_as x).values ≡ x
unfolding refusal_of negotiated_by
negotiated_back (Ok (Some c)) = refl
negotiated_back (Ok None) = refl
negotiated_back (Err r) = ap (λ (o : Option Refusal). negotiated_by o None) (refusal_back r)

-- ---- the theorems

pub run_answers_tell : RunAnswersTell
run_answers_tell = (
  tells read_as (λ w. block_by (refusal_of w.number) w.values) block_back,
  tells zeroth_as (λ w. zeroth_by (refusal_of w.number) w.values) zeroth_back,
  tells later_as (λ w. later_by (refusal_of w.number) w.values) later_back,
  tells found_as (λ w. found_by (refusal_of w.number) w.values) found_back,
  tells spaced_as (λ w. spaced_by w.number (refusal_of w.number) w.values) spaced_back,
  tells begin_as (λ w. begin_by (refusal_of w.number) w.values) begin_back,
  tells feed_as (λ w. feed_by w.number (refusal_of w.number) w.values.0 w.values.1) feed_back,
  tells conversionAs (λ w. conversion_by w.number (refusal_of w.number) w.values.0 w.values.1) conversion_back,
  tells line_as (λ w. line_by (refusal_of w.number) w.values) line_back,
  tells negotiated_as (λ w. negotiated_by (refusal_of w.number) w.values) negotiated_back,
)

pub run_refusals_numbered : RunRefusalsNumbered
run_refusals_numbered refusal n b = (refl, refl, refl, refl, refl, refl, refl, refl, refl, refl, refl, refl, refl)

-- each at an answer of its kind
used : Unit {0}
used =
    let read = run_answers_tell.0 (Ok (block.Label One 3 1)) (Ok (block.Label One 3 1)) refl in
    let zeroth = run_answers_tell.1 (Ok (record { form = Two; length = 3; ssrc = 1 })) (Ok (record { form = Two; length = 3; ssrc = 1 })) refl in
    let later = run_answers_tell.2 (Ok 5) (Ok 5) refl in
    let found = run_answers_tell.3 (Err Contents) (Err Contents) refl in
    let spaced = run_answers_tell.4 (Err (Unwritten.Room 512)) (Err (Unwritten.Room 512)) refl in
    let begun = run_answers_tell.5 (Err Contents) (Err Contents) refl in
    let fed = run_answers_tell.6 (answer.Faulty Contents 1 2) (answer.Faulty Contents 1 2) refl in
    let converted = run_answers_tell.7 (Err (Unwritten.Room 512)) (Err (Unwritten.Room 512)) refl in
    let line = run_answers_tell.8 (Err Contents) (Err Contents) refl in
    let offer = run_answers_tell.9 (Ok None) (Ok None) refl in
    tt
