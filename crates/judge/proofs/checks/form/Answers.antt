use Rattle.std.proofs.Common.{List, None, Some, ap, subst, sym}
use Rattle.gz_names.specs.declared.zone_sets.ZoneSet.{ZoneSet}
use Rattle.judge.specs.Edges.{AreInOrder}
use Rattle.judge.specs.Parts.{AreParts}
use Rattle.judge.specs.Stages.{Stage, shown, stage_of}
use Rattle.judge.specs.Walks.{walks_in, walks_of}
use Rattle.judge.proofs.Groups.{forbidden_order, forbidden_parts, forms_of}
use Rattle.judge.proofs.Results.{none_is, some_is}
use Rattle.judge.proofs.checks.form.Goals as goal

pub returns-in-Some-clause-forbidden : goal.returns-in-Some-clause-forbidden
returns-in-Some-clause-forbidden c =
    forbidden_parts c.args.graph.now (shown c.args.world.now) c.in-Collecting.collection c.args.groups.items
    (ap stage_of c.in-Collecting.is)
    (λ parts. some_is c.in_ok-fault.field-0 c.in-Some.fault c.in-Some.is c.in_ok-fault.ensures.some
    (subst (λ (gs : List ZoneSet). AreParts c.in-Collecting.collection.zones gs) (sym c.as_slice.ensures.value) parts))

pub returns-in-Some-fault-clause-forbidden : goal.returns-in-Some-fault-clause-forbidden
returns-in-Some-fault-clause-forbidden c =
    let world = c.args.world.now in
    let old = c.in-Collecting.collection in
    let new = c.judge_edges.new.collection in
    forbidden_order c.args.graph.now (shown world) old new c.args.groups.items
    (record {
      due = c.requires.due;
      sound = c.requires.sound;
      stage_is = ap stage_of c.in-Collecting.is;
      walks_are = ap walks_of c.in-Collecting.is;
      same = c.in_ok-fault-2.ensures.stage;
      caught = c.in_ok-fault-2.ensures.walks;
    })
    (λ order. some_is c.in_ok-fault-2.fault c.in-Some-fault.fault c.in-Some-fault.is c.in_ok-fault-2.ensures.forbidden
    (subst (λ (gs : List ZoneSet). AreInOrder c.args.graph.now world.former.graph world.places old new gs)
    (sym c.as_slice-2.ensures.value) order))

pub returns-clause-forms : goal.returns-clause-forms
returns-clause-forms c =
    let world = c.args.world.now in
    let old = c.in-Collecting.collection in
    let new = c.judge_edges.new.collection in
    forms_of c.args.graph.now (shown world) _ old new c.args.groups.items
    (record {
      due = c.requires.due;
      sound = c.requires.sound;
      stage_is = ap stage_of c.in-Collecting.is;
      walks_are = ap walks_of c.in-Collecting.is;
      same = c.in_ok-fault-2.ensures.stage;
      caught = c.in_ok-fault-2.ensures.walks;
    })
    (subst (λ (gs : List ZoneSet). AreParts old.zones gs) c.as_slice.ensures.value
    (none_is c.in_ok-fault.field-0 c.in_default-2.is c.in_ok-fault.ensures.none))
    (subst (λ (gs : List ZoneSet). AreInOrder c.args.graph.now world.former.graph world.places old new gs)
    c.as_slice-2.ensures.value (none_is c.in_ok-fault-2.fault c.in_default-fault.is c.in_ok-fault-2.ensures.allowed))
    (ap
    (λ (s : Stage). record (shown world) { stage = s; left_out = None; walks = Some (walks_in c.form.new.self) })
    c.form.ensures.stage)
