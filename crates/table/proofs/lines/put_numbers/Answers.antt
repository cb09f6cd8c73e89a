use mathlib.Core.Path.{◌≡◌, refl, sym, ap, ◌∙◌}
use native.Mathlib.Omega.{arith}
use Prim.Native.Nat.{ℕ, ◌+◌, ◌-◌, ◌<◌}
use denote.Ref.{Bor}
use Rattle.std.specs.Prelude.{Some}
use mathlib.Core.List.{◌∷◌, reverse}
use lib.ListN.{length, drop, get_or, length-append}
use lib.Seq.{sets}
use Rattle.std.proofs.lemmas.Iterator.Adapters.{YieldsList-from_rev_slice}
use Rattle.std.proofs.lemmas.Iterator.Consumers.{YieldsList-turn, YieldsList-end}
use Rattle.std.proofs.lemmas.List.{length_push, length-reverse}
use Rattle.table.specs.Decimal.{decimal}
use Rattle.table.specs.Parts.{behind_commas}
use Rattle.table.proofs.Commas.{commas_done, commas_back, commas_fit}
use Rattle.table.proofs.Backwards.{sets-back}
use Rattle.table.proofs.lines.put_numbers.Goals.{After-next}
use Rattle.table.proofs.lines.put_numbers.Goals as goal

-- the number of a turn, among the numbers from the last to the first
turn : (c : After-next) → {n : Bor ℕ} → c.next.result ≡ Some n → (length c.loop-n.yielded < length (reverse c.args.ns.now)) × (n.now ≡ get_or (reverse c.args.ns.now) (length c.loop-n.yielded) n.now)
turn c {n} e = YieldsList-turn (YieldsList-from_rev_slice c.args.ns.now cc) c.loop-n.yielded _ c.loop-n.yielded_by _ _ n e c.next.ensures.steps

pub loop-n-init : goal.loop-n-init
loop-n-init c =
    let ns = c.args.ns.now in
    let done = commas_done ns (length ns - 0) (omega arith) in
    (omega (arith, ap length done), refl, rw done)

pub put_number-place-requires : goal.put_number-place-requires
put_number-place-requires c =
    omega (arith, commas_fit c.args.ns.now (length c.loop-n.yielded) c.in-Some.n.now (turn (goal.at.put_number-place-requires c).After-next c.in-Some.is))

pub loop-n-preserved : goal.loop-n-preserved
loop-n-preserved c =
    let ns = c.args.ns.now in
    let loop = c.loop-n in
    let put = c.put_number-place in
    let n = c.in-Some.n.now in
    let behind = behind_commas (drop (length ns - length loop.yielded) ns) in
    let next = commas_back ns (length loop.yielded) n (turn (goal.at.loop-n-preserved c).After-next c.in-Some.is) in
    let place : loop.place ≡ put.result + length (44 ∷ decimal n) = omega arith in
    rw (length_push loop.yielded c.in-Some.n) (
      omega (arith, ap length next, length-append (44 ∷ decimal n) behind),
      put.auto.out ∙ loop.invariant.1,
      sets-back c.args.out.now put.result (44 ∷ decimal n) behind place loop.invariant.2 put.ensures.written
          ∙ ap (sets c.args.out.now put.result) (sym next),
    )

pub returns : goal.returns
returns c =
    let ns = c.args.ns.now in
    let loop = c.loop-n in
    let end = YieldsList-end (YieldsList-from_rev_slice ns cc) loop.yielded _ loop.yielded_by _ _ c.in-None.is c.next.ensures.steps in
    let none : length ns - length loop.yielded ≡ 0 = omega (arith, end.1, length-reverse ns) in
    let all : behind_commas (drop (length ns - length loop.yielded) ns) ≡ behind_commas ns = ap (λ (i : ℕ). behind_commas (drop i ns)) none in
    record { begins = omega (arith, ap length all); written = loop.invariant.2 ∙ ap (sets c.args.out.now loop.place) all }
