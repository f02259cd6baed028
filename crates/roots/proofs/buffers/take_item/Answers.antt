use Rattle.std.proofs.Common.{◌≡◌, ◌++◌, arith}
use Rattle.std.specs.Option.{option_to_list}
use Rattle.roots.proofs.Buffering.{lists_of-pop, lists_of-pop_none, IsWaiting-cleared, IsWaiting-kept, items-empty}
use Rattle.roots.proofs.Buffering.{items-left, append≢nil}
use Rattle.roots.proofs.buffers.take_item.Goals as goal

pub returns-then-is_empty-clause-some : goal.returns-then-is_empty-clause-some
returns-then-is_empty-clause-some c =
    rw (← c.index-at.ensures.value)
    (lists_of-pop c.args.buffers.now c.index-at.result c.index-buffers-at.result c.pop-place.new.self
    c.pop-place.result (omega arith) c.index-buffers-at.is (cc))

pub returns-then-is_empty-clause-none : goal.returns-then-is_empty-clause-none
returns-then-is_empty-clause-none c =
    let empty = items-empty c.args.buffers.now c.index-at.result c.pop-place.new.self _ _ (omega arith)
    c.is_empty.ensures c.if-is_empty.true in
    rw (← c.index-at.ensures.value)
    (lists_of-pop_none c.args.buffers.now c.index-at.result c.index-buffers-at.result c.pop-place.new.self
    c.pop-place.result (omega arith) c.index-buffers-at.is (cc) empty)

pub returns-then-is_empty-clause-waiting : goal.returns-then-is_empty-clause-waiting
returns-then-is_empty-clause-waiting c =
    let empty = items-empty c.args.buffers.now c.index-at.result c.pop-place.new.self _ _ (omega arith)
    c.is_empty.ensures c.if-is_empty.true in
    IsWaiting-cleared c.args.buffers.now c.args.waiting.now.bits c.remove.new.self.bits c.index-at.result
    c.pop-place.new.self (omega arith) c.requires.waiting empty (rw c.index-at.ensures.value c.remove.ensures)

pub returns-else-is_empty-clause-some : goal.returns-else-is_empty-clause-some
returns-else-is_empty-clause-some c =
    rw (← c.index-at.ensures.value)
    (lists_of-pop c.args.buffers.now c.index-at.result c.index-buffers-at.result c.pop-place.new.self
    c.pop-place.result (omega arith) c.index-buffers-at.is (cc))

pub returns-else-is_empty-clause-waiting : goal.returns-else-is_empty-clause-waiting
returns-else-is_empty-clause-waiting c =
    let left = items-left c.args.buffers.now c.index-at.result c.pop-place.new.self _ _ (omega arith) c.is_empty.ensures
    c.if-is_empty.false in
    let all : c.index-buffers-at.result.items ≡ c.pop-place.new.self.items ++ option_to_list c.pop-place.result = cc in
    IsWaiting-kept c.args.buffers.now c.args.waiting.now.bits c.index-at.result c.index-buffers-at.result
    c.pop-place.new.self (omega arith) c.index-buffers-at.is c.requires.waiting left (append≢nil _ _ _ all left)
