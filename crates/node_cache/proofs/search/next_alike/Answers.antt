-- `next_alike` meets its contract.
use Rattle.green.proofs.Known.{known, count_records}
use Rattle.node_cache.proofs.Seeking.{none_passed, other_passed, stop_alike, stop_end}
use Rattle.node_cache.proofs.search.next_alike.Goals as goal

pub loop-i-init : goal.loop-i-init
loop-i-init c = none_passed

pub hash_of-requires : goal.hash_of-requires
hash_of-requires c = known _ c.args.store.valid _ c.loop-i-test.true

pub returns-then-hash_of-hash : goal.returns-then-hash_of-hash
returns-then-hash_of-hash c = stop_alike c.loop-i.invariant (known _ c.args.store.valid _ c.loop-i-test.true).within c.hash_of.ensures c.if-hash_of-hash.true

pub loop-i-preserved : goal.loop-i-preserved
loop-i-preserved c = other_passed c.loop-i.invariant (known _ c.args.store.valid _ c.loop-i-test.true).within c.hash_of.ensures c.if-hash_of-hash.false

pub returns : goal.returns
returns c = stop_end c.loop-i.invariant (count_records _ c.args.store.valid) c.loop-i-test.false c.max.ensures
