use borrow.Author.Rules.{rules}
use mathlib.Core.Path.{◌≡◌, sym, ap, subst, ◌∙◌}
use Prim.Native.Nat.{◌≤◌}
use native.Mathlib.Omega.{arith}
use borrow.Author.Tests.{ltb-false}
use lib.ListN.{length}
use mathlib.Core.Bool.{false}
use Rattle.sources.specs.declared.calls.Counting.{Counting}
use Rattle.sources.specs.declared.finding.Seen.{Seen}
use Rattle.sources.specs.Rules.{most_places}
use Rattle.sources.specs.Tables.{over}
use Rattle.sources.specs.Changes.{changed, counting}
use Rattle.sources.proofs.Turns.{length-mapped}
use Rattle.sources.proofs.Calling.{block_counts}
use Rattle.sources.proofs.Table.count_block.Goals.{Start}
use Rattle.sources.proofs.Table.count_block.Goals as goal

long : (c : Start) → over c.args.self ≡ false → c.args.self.count ≤ length c.args.self.places
long c o = let l : length c.args.self.places ≡ 16 = search (rules, length-mapped) in omega (arith, l, ltb-false most_places c.args.self.count o)

pub put-table-requires : goal.put-table-requires
put-table-requires c =
    let a = c.args in
    subst (λ (u : Counting). u.change.end ≤ 16) (sym (c.count_block-next.ensures ∙ ap (λ (f : Seen). counting f a.ssrc a.width a.records.now) c.find.ensures))
    (block_counts a.ssrc a.self (long (goal.at.put-table-requires c).Start) a.width a.records.now).most

pub returns : goal.returns
returns c =
    let a = c.args in
    let same = c.count_block-next.ensures ∙ ap (λ (f : Seen). counting f a.ssrc a.width a.records.now) c.find.ensures in
    (λ i. record {
      table = record { places = (c.put-table.ensures.0 ∙ ap (λ (u : Counting). changed u.change a.self.places) same) i; count = c.put-table.ensures.1 i };
      answer = (same i).answer;
    })
    ∙ (block_counts a.ssrc a.self (long (goal.at.returns c).Start) a.width a.records.now).is
