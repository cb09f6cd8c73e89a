use mathlib.Core.Path.{◌≡◌, refl, sym, ap, ◌∙◌}
use mathlib.Core.List.{List}
use Prim.Native.Nat.{ℕ, ◌+◌, ◌*◌}
use borrow.Author.Tests.{ne_eqb}
use lib.ListN.{take, drop}
use Rattle.answers.specs.Refusals.{number_of}
use Rattle.source.specs.declared.Source.{Source}
use Rattle.source.specs.declared.Arrival.{Arrival}
use Rattle.source.specs.Arrivals.{arrival}
use Rattle.sources.specs.Stands.{record_of}
use Rattle.lent.specs.SourceWords.{source_near}
use Rattle.lent.specs.TableWords.{places_in}
use Rattle.capi.specs.TableWalks.{Told}
use Rattle.capi.proofs.Placed.{told_low, told_long, told_source, arrives_told}
use Rattle.capi.proofs.place_calls.arrive_at.Goals as goal

-- the answer of the record in the table
answered : (words : List ℕ) (ssrc at wire mark : ℕ) → Told words ssrc at → {s : Source} {r a : Arrival} → s ≡ source_near (take 10 (drop (11 * at + 1) words))
    → r ≡ arrival s (record { 0 = wire }) mark → r ≡ a → arrival (record_of ssrc (places_in words)) (record { 0 = wire }) mark ≡ a
answered words ssrc at wire mark t read told is =
    ap (λ (x : Source). arrival x (record { 0 = wire }) mark) (sym (told_source words ssrc at t read)) ∙ sym told ∙ is

pub source_at-s-requires : goal.source_at-s-requires
source_at-s-requires c = let t = c.requires in (told_low _ _ _ t, told_long _ _ _ t)

pub put_at-requires : goal.put_at-requires
put_at-requires c = let t = c.requires in (told_low _ _ _ t, told_long _ _ _ t)

pub put_at-requires-in-Restarted : goal.put_at-requires-in-Restarted
put_at-requires-in-Restarted c = let t = c.requires in (told_low _ _ _ t, told_long _ _ _ t)

pub put_at-requires-then-number-eq-JUMP : goal.put_at-requires-then-number-eq-JUMP
put_at-requires-then-number-eq-JUMP c = let t = c.requires in (told_low _ _ _ t, told_long _ _ _ t)

-- a jump
pub returns-then-number-eq-JUMP : goal.returns-then-number-eq-JUMP
returns-then-number-eq-JUMP c =
    let a = c.args in
    let t = c.requires in
    let e = answered a.words.now a.ssrc a.at a.wire a.mark t c.source_at-s.ensures c.arrive_in_table.ensures.value c.in-Refused.is in
    let seven = sym c.number-number.ensures ∙ c.if-number-eq-JUMP.true in
    arrives_told a.words.now a.ssrc a.at t a.wire a.mark e (record { answers = sym seven; stores = rw seven c.put_at-then-number-eq-JUMP.ensures })

pub returns-in-Accepted : goal.returns-in-Accepted
returns-in-Accepted c =
    let a = c.args in
    let t = c.requires in
    let e = answered a.words.now a.ssrc a.at a.wire a.mark t c.source_at-s.ensures c.arrive_in_table.ensures.value c.in-Accepted.is in
    arrives_told a.words.now a.ssrc a.at t a.wire a.mark e (record { answers = refl; stores = c.put_at.ensures })

pub returns-in-Restarted : goal.returns-in-Restarted
returns-in-Restarted c =
    let a = c.args in
    let t = c.requires in
    let e = answered a.words.now a.ssrc a.at a.wire a.mark t c.source_at-s.ensures c.arrive_in_table.ensures.value c.in-Restarted.is in
    arrives_told a.words.now a.ssrc a.at t a.wire a.mark e (record { answers = refl; stores = c.put_at-in-Restarted.ensures })

-- another refusal
pub returns-else-number-eq-JUMP : goal.returns-else-number-eq-JUMP
returns-else-number-eq-JUMP c =
    let a = c.args in
    let t = c.requires in
    let e = answered a.words.now a.ssrc a.at a.wire a.mark t c.source_at-s.ensures c.arrive_in_table.ensures.value c.in-Refused.is in
    let number = c.number-number.ensures in
    let other = ne_eqb (number_of c.in-Refused.refusal) 7 (λ z. c.if-number-eq-JUMP.false (number ∙ z)) in
    arrives_told a.words.now a.ssrc a.at t a.wire a.mark e (record { answers = number; stores = rw other })
