-- `has_room` meets its contract.
use native.Mathlib.Omega.{arith}
use Rattle.green_new.proofs.Room.{counts_small, no_records, no_children, by_text}
use Rattle.green_new.proofs.limits.has_room.Goals as goal

pub fits-requires : goal.fits-requires
fits-requires c = let r = counts_small c.args.store.valid in (omega (arith, r), omega arith)

pub returns-then-not-fits : goal.returns-then-not-fits
returns-then-not-fits c = no_records c.args.store.valid c.args.more c.args.places c.args.bytes _ c.fits.ensures c.if-not-fits.true-raw

pub fits-requires-2 : goal.fits-requires-2
fits-requires-2 c = let r = counts_small c.args.store.valid in (omega (arith, r), omega arith)

pub returns-then-not-fits-2 : goal.returns-then-not-fits-2
returns-then-not-fits-2 c = no_children c.args.store.valid c.args.more c.args.places c.args.bytes _ _ c.fits.ensures c.if-not-fits.false-raw c.fits-2.ensures c.if-not-fits-2.true-raw

pub fits-requires-3 : goal.fits-requires-3
fits-requires-3 c = let r = counts_small c.args.store.valid in (omega (arith, r), omega arith)

pub returns : goal.returns
returns c = by_text c.args.store.valid c.args.more c.args.places c.args.bytes _ _ _ c.fits.ensures c.if-not-fits.false-raw c.fits-2.ensures c.if-not-fits-2.false-raw c.fits-3.ensures
