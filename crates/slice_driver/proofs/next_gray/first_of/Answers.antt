use Rattle.std.proofs.Common.{◌≡◌, true}
use Rattle.slice_driver.proofs.dumping.NextGray.{passes_it, picks_it}
use Rattle.slice_driver.proofs.next_gray.first_of.Goals.{else-is_behind-via-then-is_behind+else-is_before}
use Rattle.slice_driver.proofs.next_gray.first_of.Goals.{else-is_behind-via-else-is_behind}
use Rattle.slice_driver.proofs.next_gray.first_of.Goals as goal

pub returns-then-is_before : goal.returns-then-is_before
returns-then-is_before c = picks_it c.args.after c.args.first c.args.name (c.is_behind.ensures.0 c.if-is_behind.true)
    (c.is_before.ensures.0 c.if-is_before.true)

pub returns-else-is_behind : goal.returns-else-is_behind
returns-else-is_behind c =
    passes_it c.args.after c.args.first c.args.name (λ behind before. elim c.else-is_behind.branch [
      | else-is_behind-via-then-is_behind+else-is_before w ↦ (
          let is : w.is_before.result ≡ true = w.is_before.ensures.1 before in cc (is, w.if-is_before.false))
      | else-is_behind-via-else-is_behind w ↦ (
          let is : c.is_behind.result ≡ true = c.is_behind.ensures.1 behind in cc (is, w.if-is_behind.false))
    ])
