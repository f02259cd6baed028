use Rattle.std.proofs.Common.{◌∙◌, ◌++◌, List, ap, map, sym, append_assoc}
use Rattle.std.specs.Map.Iter.{deref_pair}
use Rattle.std.proofs.lemmas.List.{append-nil, map-append}
use Rattle.std.proofs.lemmas.Map.Iter.{rest_all, rest_more}
use Rattle.gz_names.specs.declared.names.Name.{Name}
use Rattle.gz_names.specs.declared.dumps.DumpLine.{DumpLine}
use Rattle.colour_defs.specs.Dumps.{weak_line}
use Rattle.judge.specs.Dumps.{weaks_of}
use Rattle.judge.proofs.dumps.push_entries.Goals as goal

pub loop-names-init : goal.loop-names-init
loop-names-init c =
    ap (λ (es : List ((Name × Name) × Name)). c.args.lines.now.items ++ map weak_line (weaks_of es))
    c.into_iter-names-iterator.ensures.into_iter_gives.0

pub loop-names-preserved : goal.loop-names-preserved
loop-names-preserved c =
    let old = c.loop-names.lines.items in
    let more = c.next.new.self in
    let turn = rest_more deref_pair _ _ _ _ c.in-Some.is c.next.ensures.steps in
    ap (λ (ls : List DumpLine). ls ++ map weak_line (weaks_of more)) c.in_ok-push_entry.ensures
    ∙ append_assoc old _ (map weak_line (weaks_of more))
    ∙ ap (λ (ls : List DumpLine). old ++ ls) (sym (map-append weak_line _ (weaks_of more)))
    ∙ ap (λ (es : List ((Name × Name) × Name)). old ++ map weak_line (weaks_of es)) (sym turn)
    ∙ c.loop-names.invariant

pub returns-clause-ordered : goal.returns-clause-ordered
returns-clause-ordered c = c.into_iter-names-iterator.ensures.into_iter_gives.5

pub returns-clause-lines : goal.returns-clause-lines
returns-clause-lines c =
    sym (append-nil c.loop-names.lines.items)
    ∙ ap (λ (es : List ((Name × Name) × Name)). c.loop-names.lines.items ++ map weak_line (weaks_of es))
    (sym (rest_all deref_pair _ _ _ c.in-None.is c.next.ensures.steps))
    ∙ c.loop-names.invariant
