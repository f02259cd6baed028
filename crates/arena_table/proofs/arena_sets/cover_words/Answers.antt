use Rattle.std.proofs.Common.{◌<◌, ◌*◌, ◌^◌, length, arith}
use Rattle.arena_table.specs.Sets.{IsSummed}
use Rattle.arena_table.proofs.WordBits.{IsCovering-word}
use Rattle.arena_table.proofs.arena_sets.cover_words.Goals as goal

pub loop-words-preserved : goal.loop-words-preserved
loop-words-preserved c =
    let words = c.loop-words.words.items in
    let groups = c.cover_groups.new.groups.items in
    let summed : IsSummed words groups = rw c.deref.ensures.value at c.in_ok-cover_groups.ensures.summed in
    let room : length words < 64 * length groups = rw c.deref.ensures.value at c.in_ok-cover_groups.ensures.room in
    let long : length words * 64 < c.args.count = omega (arith, c.loop-words.words.ok.0) in
    let few : length words < 2 ^ 26 = omega arith in
    rw c.in_ok-push.ensures.items
    (IsCovering-word c.args.words.now.items words c.loop-words.groups.items groups c.loop-words.invariant summed
    room few)
