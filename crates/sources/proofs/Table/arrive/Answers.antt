use borrow.Author.Rules.{rules}
use mathlib.Core.Path.{◌≡◌, sym, ap, subst, ◌∙◌}
use Prim.Native.Nat.{◌≤◌}
use native.Mathlib.Omega.{arith}
use borrow.Author.Tests.{ltb-false}
use lib.ListN.{length}
use mathlib.Core.Bool.{false}
use Rattle.sources.specs.declared.calls.Arriving.{Arriving}
use Rattle.sources.specs.declared.finding.Seen.{Seen}
use Rattle.sources.specs.Rules.{most_places}
use Rattle.sources.specs.Tables.{over}
use Rattle.sources.specs.Changes.{changed, arriving}
use Rattle.sources.proofs.Turns.{length-mapped}
use Rattle.sources.proofs.Calling.{arrives}
use Rattle.sources.proofs.Table.arrive.Goals.{Start}
use Rattle.sources.proofs.Table.arrive.Goals as goal

long : (c : Start) → over c.args.self ≡ false → c.args.self.count ≤ length c.args.self.places
long c o = let l : length c.args.self.places ≡ 16 = search (rules, length-mapped) in omega (arith, l, ltb-false most_places c.args.self.count o)

pub put-table-requires : goal.put-table-requires
put-table-requires c =
    let a = c.args in
    subst (λ (u : Arriving). u.change.end ≤ 16) (sym (c.arrive-next.ensures ∙ ap (λ (f : Seen). arriving f a.ssrc a.wire a.mark) c.find.ensures))
    (arrives a.ssrc a.self (long (goal.at.put-table-requires c).Start) a.wire a.mark).most

pub returns : goal.returns
returns c =
    let a = c.args in
    let same = c.arrive-next.ensures ∙ ap (λ (f : Seen). arriving f a.ssrc a.wire a.mark) c.find.ensures in
    (λ i. record {
      table = record { places = (c.put-table.ensures.0 ∙ ap (λ (u : Arriving). changed u.change a.self.places) same) i; count = c.put-table.ensures.1 i };
      answer = (same i).answer;
    })
    ∙ (arrives a.ssrc a.self (long (goal.at.returns c).Start) a.wire a.mark).is
