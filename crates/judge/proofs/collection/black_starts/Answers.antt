use Rattle.std.proofs.Common.{◌∙◌, ◌++◌, ap, Some}
use Rattle.std.proofs.lemmas.Result.{IfOk-weaker}
use Rattle.gz_names.specs.Zones.{zones_in}
use Rattle.judge.specs.Cells.{HasCell}
use Rattle.judge.specs.Starts.{IsBlackOutside, IsInRegister}
use Rattle.judge.proofs.Starts.{list_joined}
use Rattle.judge.proofs.collection.black_starts.Goals as goal

pub returns : goal.returns
returns c =
    let blacks = c.in_ok-blacks.blacks.items in
    IfOk-weaker c.joined.result _ _ (λ names e. list_joined c.in_ok-held.held.items blacks names.items
    (IsInRegister c.args.graph.now)
    (λ x. HasCell c.args.places.now x × IsBlackOutside c.args.graph.now (zones_in c.args.preparation.now.zones)
    (Some c.args.preparation.now.black) x)
    (e ∙ ap (λ ns. c.in_ok-held.held.items ++ ns) c.as_slice.ensures.value) c.in_ok-held.ensures c.in_ok-blacks.ensures)
    c.joined.ensures
