use Rattle.capi.proofs.tables.flasknib_sources_count_block.Goals as goal

pub count_at-requires : goal.count_at-requires
count_at-requires c = c.place_of-at.ensures c.if-at-lt-UNTOLD.true
