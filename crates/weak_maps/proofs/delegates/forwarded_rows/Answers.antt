use Rattle.std.proofs.Common.{◌≡◌, ◌∷◌, ◌++◌, ◌∙◌, [], None, List, length, map, take, sym, ap, arith}
use Rattle.std.specs.Map.{lookup}
use Rattle.std.proofs.lemmas.Iterator.Consumers.{YieldsList-end, YieldsList-from_rest, YieldsList-turn}
use Rattle.std.proofs.lemmas.List.{length_push, map_more, take_all}
use Rattle.indexmap.specs.IndexMap.{insert_entry}
use Rattle.indexmap.proofs.CallerLemmas.{insert_entry-new}
use Rattle.weak_maps.specs.Moving.{AreNamedByRows}
use Rattle.weak_maps.specs.Tables.{is_key}
use Rattle.weak_maps.specs.declared.delegates.Delegate.{Delegate}
use Rattle.weak_maps.specs.declared.entries.EntryKey.{EntryKey}
use Rattle.weak_maps.proofs.Forwarding.{delegate_gone, key_goes_anew, pair_gone, row_at, rows_gone, rows_name}
use Rattle.weak_maps.proofs.delegates.forwarded_rows.Goals as goal

pub loop-key-preserved : goal.loop-key-preserved
loop-key-preserved c =
    let moves = c.args.moves.now in
    let table = c.args.rows.now.entries in
    let i = length c.loop-key.yielded in
    let turn = YieldsList-turn (YieldsList-from_rest table cc) c.loop-key.yielded _ c.loop-key.yielded_by _ _
    (c.in-Some.key, c.in-Some.delegate) c.in-Some.is c.next.ensures.steps in
    let one : EntryKey × Delegate = (c.in-Some.key.now, c.in-Some.delegate.now) in
    let goes : EntryKey × Delegate → EntryKey × Delegate = pair_gone moves (delegate_gone moves) in
    let before = map goes (take i table) in
    let none : lookup (is_key (goes one).0) c.loop-key.gone.entries ≡ None =
    ap (lookup (is_key (goes one).0)) c.loop-key.invariant
    ∙ key_goes_anew (AreNamedByRows (map row_at table)) moves (delegate_gone moves) table (record {
      apart = c.requires;
      named = rows_name table;
      distinct = c.iter-key-items.ensures.unique;
    }) i one turn.0 turn.1 in
    let key : ◌≡◌ {A = EntryKey} (record { map = c.moved_to.result; key = c.moved_to-in-loop-key.result }) (goes one).0
    =
    λ j. record { map = c.moved_to.ensures.moved j; key = c.moved_to-in-loop-key.ensures.moved j } in
    let target : ◌≡◌ {A = Delegate} (record { target = c.moved_to-target.result; zone = one.1.zone }) (goes one).1 =
    λ j. record { target = c.moved_to-target.ensures.moved j; zone = one.1.zone } in
    c.in_ok-enter.ensures.ok
    ∙ (λ j. insert_entry is_key c.loop-key.gone.entries (key j) (target j))
    ∙ insert_entry-new is_key c.loop-key.gone (goes one).0 (goes one).1 none
    ∙ ap (λ (l : List (EntryKey × Delegate)). l ++ goes one ∷ []) c.loop-key.invariant
    ∙ ap (λ (e : EntryKey × Delegate). before ++ goes e ∷ []) turn.1
    ∙ sym (map_more goes table i one turn.0)
    ∙ ap (λ n. map goes (take n table)) (sym (length_push c.loop-key.yielded (c.in-Some.key, c.in-Some.delegate)))

pub returns : goal.returns
returns c =
    let moves = c.args.moves.now in
    let table = c.args.rows.now.entries in
    let end = YieldsList-end (YieldsList-from_rest table cc) c.loop-key.yielded _ c.loop-key.yielded_by _ _
    c.in-None.is c.next.ensures.steps in
    ap (map row_at) (c.loop-key.invariant
    ∙ ap (map (pair_gone moves (delegate_gone moves))) (take_all (length c.loop-key.yielded) table
    (omega (arith, end.1))))
    ∙ rows_gone moves table
