use Rattle.std.proofs.Common.{sym, ap, ◌∙◌, position, slice_set}
use Rattle.colour_defs.specs.declared.graph.Entry.{Entry}
use Rattle.colour_defs.specs.Step.{is_entry_of}
use Rattle.colour_defs.proofs.Entries.{put_entry-found, put_entry-none}
use Rattle.plain_graph.proofs.graph.put_in.Goals as goal

pub returns-in-Some-clause-ok : goal.returns-in-Some-clause-ok
returns-in-Some-clause-ok c =
    let here = sym (ap (position (is_entry_of c.args.map c.args.key)) c.as_slice.ensures.value)
    ∙ sym c.in-Some.ensures in
    ap (λ (e : Entry). slice_set c.args.entries.now.items c.in-Some.index (record e { value = c.args.value }))
    c.index_mut.ensures.value
    ∙ sym (put_entry-found c.args.entries.now.items c.in-Some.index c.args.map c.args.key c.args.value
    c.index_mut.result.now here)

pub returns-in_ok-push-in-None-clause-ok : goal.returns-in_ok-push-in-None-clause-ok
returns-in_ok-push-in-None-clause-ok c =
    let none = sym (ap (position (is_entry_of c.args.map c.args.key)) c.as_slice.ensures.value)
    ∙ sym c.in-None.ensures in
    c.in_ok-push-in-None.ensures.items
    ∙ sym (put_entry-none c.args.entries.now.items c.args.map c.args.key c.args.value none)
