-- Number and values tell an answer: each is won back from them. Assumes nothing.
use Rattle.std.specs.Prelude.{Option, Some, None, Result, Ok, Err}
use Rattle.answers.specs.declared.Unwritten.{Unwritten}
use mathlib.Core.Path.{◌≡◌, refl, sym, ap, ◌∙◌}
use mathlib.Core.Bool.{Bool, false, cond}
use Prim.Native.Nat.{ℕ}
use lib.Dec.{eqb}
use lib.IntN.{ℤ, pos}
use Rattle.answers.specs.Numbered.{written_as}
use Rattle.answers.specs.Refusals.{number_of}
use Rattle.answers.specs.declared.Refusal.{Refusal}
use Rattle.answers.specs.declared.Refusal.TheVariants.{Incomplete, Version, FirstPacket, PacketSize, Padding, BlockSize, Jump, Full, Malformed, Limits, Time, Checksum, Contents, Places, Rules, FormTwo, Attribute, Retired}
use Rattle.source.specs.declared.Source.{Source}
use Rattle.source.specs.declared.Arrival.{Arrival}
use Rattle.source.specs.declared.Arrival.TheVariants as arrival
use Rattle.source.specs.declared.BlockCount.{BlockCount}
use Rattle.source.specs.declared.BlockCount.TheVariants as count
use Rattle.source.specs.Record.{fresh_record}
use Rattle.source.specs.Numbered.{arrival_as, count_as, lost_as}
use Rattle.rtcp.specs.declared.Compound.{Compound}
use Rattle.rtcp.specs.Numbered.{reading_as}
use Rattle.breaker.specs.declared.Breaker.{Breaker}
use Rattle.breaker.specs.declared.EcnCounts.{EcnCounts}
use Rattle.breaker.specs.declared.Reason.TheVariants.{Timeout, Media, Congestion}
use Rattle.breaker.specs.declared.Answer.{Answer}
use Rattle.breaker.specs.declared.Answer.TheVariants as answer
use Rattle.breaker.specs.declared.Step.{Step}
use Rattle.breaker.specs.Answers.{answers}
use Rattle.breaker.specs.Calls.{unstarted}
use Rattle.breaker.specs.Numbered.{Verdict, answer_as, step_as}
use Rattle.between.specs.Differences.{between_as}
use Rattle.demands.specs.Numbered.{AnswersTell, RefusalsNumbered}

-- what is won back tells
pub tells : {A B : Type 0} (f : A → B) (g : B → A) → ((x : A) → g (f x) ≡ x) → (x y : A) → f x ≡ f y → x ≡ y
tells f g back x y e = sym (back x) ∙ ap g e ∙ back y

-- ---- the refusal of a number

unfoldable pub refusal_of : ℕ → Option Refusal
refusal_of n =
    cond (eqb n 1) (Some Incomplete)
    (cond (eqb n 2) (Some Version)
    (cond (eqb n 3) (Some FirstPacket)
    (cond (eqb n 4) (Some PacketSize)
    (cond (eqb n 5) (Some Padding)
    (cond (eqb n 6) (Some BlockSize)
    (cond (eqb n 7) (Some Jump)
    (cond (eqb n 8) (Some Full)
    (cond (eqb n 9) (Some Malformed)
    (cond (eqb n 10) (Some Limits)
    (cond (eqb n 11) (Some Time)
    (cond (eqb n 13) (Some Checksum)
    (cond (eqb n 14) (Some Contents)
    (cond (eqb n 15) (Some Places)
    (cond (eqb n 16) (Some Rules)
    (cond (eqb n 17) (Some FormTwo)
    (cond (eqb n 18) (Some Attribute)
    (cond (eqb n 19) (Some Retired)
    None)))))))))))))))))

pub refusal_back : (r : Refusal) → refusal_of (number_of r) ≡ Some r
unfolding refusal_of
refusal_back Incomplete = refl
refusal_back Version = refl
refusal_back FirstPacket = refl
refusal_back PacketSize = refl
refusal_back Padding = refl
refusal_back BlockSize = refl
refusal_back Jump = refl
refusal_back Full = refl
refusal_back Malformed = refl
refusal_back Limits = refl
refusal_back Time = refl
refusal_back Checksum = refl
refusal_back Contents = refl
refusal_back Places = refl
refusal_back Rules = refl
refusal_back FormTwo = refl
refusal_back Attribute = refl
refusal_back Retired = refl

-- ---- each answer

written_by : ℕ → Option Refusal → Option ℕ → Result ℕ Unwritten
written_by number (Some r) v = Err (Unwritten.Refused r)
written_by number None (Some n) = cond (eqb number 12) (Err (Unwritten.Room n)) (Ok n)
written_by number None None = Ok 0

written_back : (x : Result ℕ Unwritten) → written_by (written_as x).number (refusal_of (written_as x).number) (written_as x).values ≡ x
unfolding refusal_of written_by
written_back (Ok n) = refl
written_back (Err (Unwritten.Room n)) = refl
written_back (Err (Unwritten.Refused r)) = ap (λ (o : Option Refusal). written_by (number_of r) o None) (refusal_back r)

arrival_by : Option Refusal → Source × Bool → Arrival
arrival_by None v = cond v.1 (arrival.Restarted v.0) (arrival.Accepted v.0)
arrival_by (Some r) v = arrival.Refused r v.0

arrival_back : (x : Arrival) → arrival_by (refusal_of (arrival_as x).number) (arrival_as x).values ≡ x
unfolding refusal_of arrival_by
arrival_back (arrival.Accepted s) = refl
arrival_back (arrival.Restarted s) = refl
arrival_back (arrival.Refused r s) = ap (λ (o : Option Refusal). arrival_by o (s, false)) (refusal_back r)

count_by : Option Refusal → Source → Option (ℕ × ℕ) → BlockCount
count_by None s (Some v) = count.Counted s v.0 v.1
count_by None s None = count.Counted s 0 0
count_by (Some r) s v = count.Refused r s

count_back : (x : BlockCount) → count_by (refusal_of (count_as x).number) (count_as x).values.0 (count_as x).values.1 ≡ x
unfolding refusal_of count_by
count_back (count.Counted s jumps restarts) = refl
count_back (count.Refused r s) = ap (λ (o : Option Refusal). count_by o s None) (refusal_back r)

lost_by : Option Refusal → Option ℤ → Result ℤ Refusal
lost_by None (Some z) = Ok z
lost_by None None = Ok (pos 0)
lost_by (Some r) v = Err r

lost_back : (x : Result ℤ Refusal) → lost_by (refusal_of (lost_as x).number) (lost_as x).values ≡ x
unfolding refusal_of lost_by
lost_back (Ok z) = refl
lost_back (Err r) = ap (λ (o : Option Refusal). lost_by o None) (refusal_back r)

reading_by : Option Refusal → Option Compound → Result Compound Refusal
reading_by None (Some c) = Ok c
reading_by None None = Err Incomplete
reading_by (Some r) v = Err r

reading_back : (x : Result Compound Refusal) → reading_by (refusal_of (reading_as x).number) (reading_as x).values ≡ x
unfolding refusal_of reading_by
reading_back (Ok c) = refl
reading_back (Err r) = ap (λ (o : Option Refusal). reading_by o None) (refusal_back r)

between_by : Option Refusal → Option EcnCounts → Result EcnCounts Refusal
between_by None (Some c) = Ok c
between_by None None = Err Incomplete
between_by (Some r) v = Err r

between_back : (x : Result EcnCounts Refusal) → between_by (refusal_of (between_as x).number) (between_as x).values ≡ x
unfolding refusal_of between_by
between_back (Ok c) = refl
between_back (Err r) = ap (λ (o : Option Refusal). between_by o None) (refusal_back r)

verdict_by : Verdict → Answer
verdict_by v =
    cond v.reduce answer.Reduce
    (cond (eqb v.reason 1) (answer.Stop Timeout)
    (cond (eqb v.reason 2) (answer.Stop Media)
    (cond (eqb v.reason 3) (answer.Stop Congestion)
    answer.Go)))

answer_by : Option Refusal → Option Verdict → Answer
answer_by None (Some v) = verdict_by v
answer_by None None = answer.Go
answer_by (Some r) v = answer.Refused r

answer_back : (b : Breaker) (x : Answer) → answer_by (refusal_of (answer_as b x).number) (answer_as b x).values.1 ≡ x
unfolding refusal_of answer_by verdict_by
answer_back b answer.Go = refl
answer_back b answer.Reduce = refl
answer_back b (answer.Stop Timeout) = refl
answer_back b (answer.Stop Media) = refl
answer_back b (answer.Stop Congestion) = refl
answer_back b (answer.Refused r) = ap (λ (o : Option Refusal). answer_by o None) (refusal_back r)

-- the breaker beside an answer
breaker_back : (b : Breaker) (x : Answer) → (answer_as b x).values.0 ≡ b
breaker_back b answer.Go = refl
breaker_back b answer.Reduce = refl
breaker_back b (answer.Stop reason) = refl
breaker_back b (answer.Refused r) = refl

step_back : (x : Step) → answers (answer_by (refusal_of (step_as x).number) (step_as x).values.1) (step_as x).values.0 ≡ x
step_back x = λ i. record { answer = answer_back x.breaker x.answer i; breaker = breaker_back x.breaker x.answer i }

-- ---- the theorems

pub answers_tell : AnswersTell
answers_tell = (
  tells written_as (λ w. written_by w.number (refusal_of w.number) w.values) written_back,
  tells arrival_as (λ w. arrival_by (refusal_of w.number) w.values) arrival_back,
  tells count_as (λ w. count_by (refusal_of w.number) w.values.0 w.values.1) count_back,
  tells lost_as (λ w. lost_by (refusal_of w.number) w.values) lost_back,
  tells reading_as (λ w. reading_by (refusal_of w.number) w.values) reading_back,
  tells step_as (λ w. answers (answer_by (refusal_of w.number) w.values.1) w.values.0) step_back,
  tells between_as (λ w. between_by (refusal_of w.number) w.values) between_back,
)

pub refusals_numbered : RefusalsNumbered
refusals_numbered refusal n s b = (refl, refl, refl, refl, refl, refl, refl, refl)

-- each at an answer of its kind
used : Unit {0}
used =
    let written = answers_tell.0 (Err (Unwritten.Room 3)) (Err (Unwritten.Room 3)) refl in
    let arrived = answers_tell.1 (arrival.Restarted fresh_record) (arrival.Restarted fresh_record) refl in
    let counted = answers_tell.2 (count.Counted fresh_record 1 2) (count.Counted fresh_record 1 2) refl in
    let lost = answers_tell.3 (Ok (pos 2)) (Ok (pos 2)) refl in
    let read = answers_tell.4 (Err Version) (Err Version) refl in
    let step = answers_tell.5 unstarted unstarted refl in
    let between = answers_tell.6 (Err Limits) (Err Limits) refl in
    tt
