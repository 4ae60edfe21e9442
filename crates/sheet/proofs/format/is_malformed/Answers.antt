-- `is_malformed` meets its contract.
use Rattle.definitions.proofs.Sheets.{too_short, too_many, other_length, text_long, by_text}
use Rattle.sheet.proofs.format.is_malformed.Goals as goal

pub returns-then-sheet-lt8 : goal.returns-then-sheet-lt8
returns-then-sheet-lt8 c = too_short c.args.sheet.now c.args.text.now c.if-sheet-lt8.true

pub returns-then-n-gt4096 : goal.returns-then-n-gt4096
returns-then-n-gt4096 c = too_many c.args.sheet.now c.args.text.now c.u32_at-n.result c.u32_at-n.ensures c.if-n-gt4096.true

pub returns-then-sheet-n : goal.returns-then-sheet-n
returns-then-sheet-n c = other_length c.args.sheet.now c.args.text.now c.u32_at-n.result c.u32_at-n.ensures c.if-sheet-n.true

pub returns-then-t-gt65536 : goal.returns-then-t-gt65536
returns-then-t-gt65536 c = text_long c.args.sheet.now c.args.text.now c.u32_at-n.result c.u32_at-n.ensures c.if-n-gt4096.false c.if-sheet-n.false c.u32_at-t.result c.u32_at-t.ensures c.if-t-gt65536.true

pub returns : goal.returns
returns c = by_text c.args.sheet.now c.args.text.now c.u32_at-n.result c.u32_at-n.ensures c.if-n-gt4096.false c.if-sheet-n.false c.u32_at-t.result c.u32_at-t.ensures c.if-t-gt65536.false
