use Rattle.std.proofs.Common.{◌≡◌, ℕ, List, length, take, drop, arith, ◌-◌, ap, ◌∙◌}
use Rattle.std.specs.List.{prefix_len}
use Rattle.gz_io.specs.Finding.{is_plain}
use Rattle.gz_io.proofs.Lanes.{plain_run, run_fits, run_stop}
use Rattle.gz_io.proofs.Pieces.{taken_of_rest}
use Rattle.gz_io.proofs.Plain.{plain_more}
use Rattle.gz_io.proofs.find.plain_end.Goals as goal

of_rest : (bytes : List ℕ) (end n : ℕ) → n ≡ prefix_len is_plain (take 16 (take (length bytes - end) (drop end bytes)))
    → n ≡ prefix_len is_plain (take 16 (drop end bytes))
of_rest bytes end n e = e ∙ ap (λ t. prefix_len is_plain (take 16 t)) (taken_of_rest bytes end)

pub returns-then-plain-lt16-clause-plain : goal.returns-then-plain-lt16-clause-plain
returns-then-plain-lt16-clause-plain c =
    let n = of_rest c.args.bytes.now c.loop-end.end c.plain_of_16-plain.result c.plain_of_16-plain.ensures in
    plain_run c.args.bytes.now c.loop-end.end c.plain_of_16-plain.result c.loop-end.invariant.1 n

pub returns-then-plain-lt16-clause-stop : goal.returns-then-plain-lt16-clause-stop
returns-then-plain-lt16-clause-stop c = λ h.
    let n = of_rest c.args.bytes.now c.loop-end.end c.plain_of_16-plain.result c.plain_of_16-plain.ensures in
    run_stop c.args.bytes.now c.loop-end.end c.plain_of_16-plain.result (omega arith) n (omega arith)

pub loop-end-preserved : goal.loop-end-preserved
loop-end-preserved c =
    let n = of_rest c.args.bytes.now c.loop-end.end c.plain_of_16-plain.result c.plain_of_16-plain.ensures in (
      run_fits c.args.bytes.now c.loop-end.end c.plain_of_16-plain.result c.loop-end.invariant.0 n,
      plain_run c.args.bytes.now c.loop-end.end c.plain_of_16-plain.result c.loop-end.invariant.1 n,
    )

pub loop-end-2-preserved : goal.loop-end-2-preserved
loop-end-2-preserved c = (
  omega arith,
  plain_more c.args.bytes.now c.loop-end-2.end (omega arith) c.loop-end-2.invariant.1 (omega arith)
      (λ e. c.if-bytes-end-ne10.true e),
)
