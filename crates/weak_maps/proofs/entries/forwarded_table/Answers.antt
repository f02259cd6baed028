use Rattle.std.proofs.Common.{◌≡◌, ◌∷◌, ◌++◌, ◌∙◌, [], None, List, length, map, take, sym, ap, arith}
use Rattle.std.specs.Map.{lookup}
use Rattle.std.proofs.lemmas.Iterator.Consumers.{YieldsList-end, YieldsList-from_rest, YieldsList-turn}
use Rattle.std.proofs.lemmas.List.{length_push, map_more, take_all}
use Rattle.indexmap.specs.IndexMap.{insert_entry}
use Rattle.indexmap.proofs.CallerLemmas.{insert_entry-new}
use Rattle.gz_names.specs.Moves.{moved}
use Rattle.gz_names.specs.declared.numbers.Place.{Place}
use Rattle.weak_maps.specs.Moving.{AreNamed}
use Rattle.weak_maps.specs.Tables.{is_key}
use Rattle.weak_maps.specs.declared.entries.EntryKey.{EntryKey}
use Rattle.weak_maps.proofs.Forwarding.{entries_gone, entries_name, entry_at, key_goes_anew, pair_gone}
use Rattle.weak_maps.proofs.entries.forwarded_table.Goals as goal

pub loop-key-preserved : goal.loop-key-preserved
loop-key-preserved c =
    let moves = c.args.moves.now in
    let table = c.args.table.now.entries in
    let i = length c.loop-key.yielded in
    let turn = YieldsList-turn (YieldsList-from_rest table cc) c.loop-key.yielded _ c.loop-key.yielded_by _ _
    (c.in-Some.key, c.in-Some.value) c.in-Some.is c.next.ensures.steps in
    let one : EntryKey × Place = (c.in-Some.key.now, c.in-Some.value.now) in
    let goes : EntryKey × Place → EntryKey × Place = pair_gone moves (moved moves) in
    let before = map goes (take i table) in
    let none : lookup (is_key (goes one).0) c.loop-key.gone.entries ≡ None =
    ap (lookup (is_key (goes one).0)) c.loop-key.invariant
    ∙ key_goes_anew (AreNamed (map entry_at table)) moves (moved moves) table (record {
      apart = c.requires;
      named = entries_name table;
      distinct = c.iter-key-items.ensures.unique;
    }) i one turn.0 turn.1 in
    let key : ◌≡◌ {A = EntryKey} (record { map = c.moved_to.result; key = c.moved_to-in-loop-key.result }) (goes one).0
    =
    λ j. record { map = c.moved_to.ensures.moved j; key = c.moved_to-in-loop-key.ensures.moved j } in
    c.in_ok-enter.ensures.ok
    ∙ (λ j. insert_entry is_key c.loop-key.gone.entries (key j) (c.moved_to-in-loop-key-2.ensures.moved j))
    ∙ insert_entry-new is_key c.loop-key.gone (goes one).0 (goes one).1 none
    ∙ ap (λ (l : List (EntryKey × Place)). l ++ goes one ∷ []) c.loop-key.invariant
    ∙ ap (λ (e : EntryKey × Place). before ++ goes e ∷ []) turn.1
    ∙ sym (map_more goes table i one turn.0)
    ∙ ap (λ n. map goes (take n table)) (sym (length_push c.loop-key.yielded (c.in-Some.key, c.in-Some.value)))

pub returns : goal.returns
returns c =
    let moves = c.args.moves.now in
    let table = c.args.table.now.entries in
    let end = YieldsList-end (YieldsList-from_rest table cc) c.loop-key.yielded _ c.loop-key.yielded_by _ _
    c.in-None.is c.next.ensures.steps in
    ap (map entry_at) (c.loop-key.invariant
    ∙ ap (map (pair_gone moves (moved moves))) (take_all (length c.loop-key.yielded) table (omega (arith, end.1))))
    ∙ entries_gone moves table
