use Rattle.std.proofs.Common.{◌≡◌, List, Option, subst}
use Rattle.std.specs.Prelude.{IfSome, Vec}
use Rattle.std.specs.declared.alloc.Global.{Global}
use Rattle.gz_names.specs.declared.zone_sets.ZoneSet.{ZoneSet}
use Rattle.gz_names.specs.declared.replies.Report.TheVariants as report
use Rattle.trace_lang.specs.Texts.{report_text}
use Rattle.judge.specs.Stages.{AreForbidden, shown}
use Rattle.judge.proofs.Listed.{forbidden_line}
use Rattle.judge.proofs.Results.{a_fault, match_none, match_some, none_both}
use Rattle.judge.proofs.checks.formed.Goals as goal

pub returns-clause-right : goal.returns-clause-right
returns-clause-right c =
    let text = subst (λ (o : Option (Vec ZoneSet Global)). IfSome o
    (λ groups. c.args.line.now ≡ report_text (report.Groups groups.items))) c.in-Some.is c.in_ok-groups.ensures.some in
    none_both c.form.result (λ f up. (c.in-Some.groups.items, text, f, up)) c.form.ensures.forms c.form.ensures.caught

pub returns-in_default-clause-wrong : goal.returns-in_default-clause-wrong
returns-in_default-clause-wrong c =
    forbidden_line c.args.graph.now (shown c.args.world.now) c.args.line.now
    (λ groups listed e. absurd (match_none c.in_ok-groups.field-0 _ _ c.in_default.is
    (c.in_ok-groups.ensures.exact groups listed e)))

pub returns-clause-wrong : goal.returns-clause-wrong
returns-clause-wrong c =
    a_fault c.form.result
    (λ forbidden. forbidden_line c.args.graph.now (shown c.args.world.now) c.args.line.now
    (λ groups listed e. subst (λ (xs : List ZoneSet). AreForbidden c.args.graph.now (shown c.args.world.now) xs)
    (match_some c.in_ok-groups.field-0 c.in-Some.groups _ _ c.in-Some.is
    (c.in_ok-groups.ensures.exact groups listed e)) forbidden))
    c.form.ensures.forbidden
