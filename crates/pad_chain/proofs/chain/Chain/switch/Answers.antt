use Rattle.std.proofs.Common.{◌≡◌, ℕ, ◌-◌, List, ◌∷◌, ◌++◌, length, take, map, reverse, true, refl, sym, ap, ◌∙◌, subst, arith}
use Rattle.std.proofs.lemmas.List.{reverse-append, length-map, length-reverse, length-take}
use Rattle.std.specs.BTreeMap.{get}
use Rattle.pad_text.specs.declared.name.Name.{Name}
use Rattle.pad_graph.specs.State.{name_cmp, state_of}
use Rattle.pad_chain.specs.State.{View, held_of}
use Rattle.pad_branch.specs.declared.undo.Undo.{Undo}
use Rattle.pad_branch.specs.declared.moved.Move.{Move}
use Rattle.pad_branch.specs.Undo.{undone_name}
use Rattle.pad_branch.specs.Held.{messages_at}
use Rattle.pad_branch.specs.Move.{move_back, move_on}
use Rattle.pad_branch.specs.Tip.{tip_after}
use Rattle.pad_branch.specs.Branch.{State, IsTrunk, LeadsTo, switched, text_below}
use Rattle.pad_checkpoint.specs.Settled.{IsRooted}
use Rattle.pad_checkpoint.specs.Links.{link_of}
use Rattle.pad_chain.specs.Inside.Marks.{marks_from, NoneIsCheckpoint}
use Rattle.pad_chain.specs.Inside.Receiving.{Switches, KeepsNames}
use Rattle.pad_chain.specs.declared.moved.Moved.{Moved}
use Rattle.pad_chain.specs.Leads.{Leads}
use Rattle.pad_chain.proofs.Arms.{fewer_held}
use Rattle.pad_chain.proofs.Ground.{came_many}
use Rattle.pad_chain.proofs.Leading.{switch_leads}
use Rattle.pad_chain.proofs.Noting.{noted_held}
use Rattle.pad_chain.proofs.Settled.{rooted}
use Rattle.pad_chain.proofs.NoCut.{no_rise}
use Rattle.pad_chain.proofs.Received.{won_received}
use Rattle.pad_chain.proofs.chain.Chain.switch.Goals as goal

pub invariant_of-self-2 : goal.invariant_of-self-2
invariant_of-self-2 g c =
    noted_held (get name_cmp c.rise.new.messages) (get name_cmp c.note.new.messages) c.args.pathless (state_of c.settle.new.graph) c.note.ensures
    (fewer_held (get name_cmp c.self.inside.messages) (get name_cmp c.rise.new.messages) c.rise.ensures.fewer c.self.invariant)

pub returns-clause-received : goal.returns-clause-received
returns-clause-received g c =
    let i = c.self.inside in
    let won = c.args.won in
    let units : List ℕ = g.S.UnitStore.units won.text in
    let come : List Undo = won.undos.items in
    let br : State = i.branch.branch in
    let here : c.make_room.new.self.branch ≡ br = c.make_room.ensures.same in
    let keep_is : c.make_room.new.won.keep ≡ won.keep = c.make_room.ensures.keep in
    let come_is : c.make_room.new.won.undos.items ≡ come = c.make_room.ensures.undos in
    let units_is : g.S.UnitStore.units c.make_room.new.won.text ≡ units = ap g.S.UnitStore.units c.make_room.ensures.text in
    let old : View = record { graph = i.graph; pruning = i.pruning; messages = i.messages.entries; branch = i.branch; found = reverse i.found.items; whole = i.whole } in
    let new : View = record old { graph = c.settle.new.graph; pruning = c.settle.new.pruning; messages = c.note.new.messages.entries; branch = c.rise.new.branch; found = reverse c.add_found.new.found.items } in
    let added : reverse c.add_found.new.found.items ≡ reverse c.args.found.items ++ reverse i.found.items =
    ap reverse c.add_found.ensures ∙ reverse-append c.reserve-2.new.self.items c.args.found.items ∙ ap (λ (xs : List Name). reverse c.args.found.items ++ reverse xs) c.in_ok-reserve-2.ensures.items in
    let switched_is : c.switch_to.new.self.branch ≡ switched br won.keep come units = c.switch_to.ensures.branch ∙ (λ i. switched (here i) (keep_is i) (come_is i) (units_is i)) in
    let back : c.new.result ≡ map move_back (take (length br.undos - won.keep) (reverse br.undos)) = c.new.ensures ∙ c.switch_to.ensures.reverted ∙ ap (λ (xs : List Move). xs ++ map move_back (take (length c.make_room.new.self.branch.undos - c.make_room.new.won.keep) (reverse c.make_room.new.self.branch.undos))) (c.in_ok-reserve.ensures.items ∙ c.new-leaves.ensures.items) ∙ (λ i. map move_back (take (length (here i).undos - keep_is i) (reverse (here i).undos))) in
    let came : List Move = map move_on (messages_at (held_of old) (map undone_name come)) in
    let moved : Moved = record { reverted = c.new.result; applied = came } in
    let same : c.args.tell ≡ true → moved ≡ record { reverted = c.new.result; applied = c.new-2.result } = λ tell. (λ i. record { reverted = c.new.result; applied = sym (c.new-2.ensures ∙ c.in_ok-comes.ensures tell ∙ ap (λ (us : List Undo). map move_on (messages_at (held_of old) (map undone_name us))) c.as_slice.ensures.value) i }) in (
      moved,
      same,
      subst (λ (v : View). Switches v new c.args.pathless (reverse c.args.found.items) won.keep come units moved) c.self.view_is
          (λ before b R m choice linkings path out best is_won.
          let comes_are : c.as_slice-2.result.now ≡ come = c.as_slice-2.ensures.value ∙ come_is in
          let marks_are : marks_from c.make_room.new.self.branch.low (take c.make_room.new.won.keep c.make_room.new.self.branch.undos ++ c.as_slice-2.result.now) ≡ marks_from br.low (take won.keep br.undos ++ come) = (λ i. marks_from (here i).low (take (keep_is i) (here i).undos ++ comes_are i)) in
          let quiet = λ (none : NoneIsCheckpoint (reverse c.as_slice-2.result.now)). no_rise before old b R m choice linkings out.joining out.ready.trunk path won.keep come units (held_of old) is_won (subst (λ (us : List Undo). NoneIsCheckpoint (reverse us)) comes_are none) c.root_stays.ensures c.repeat_changes_no_choice.ensures c.roots_rise_to_cuts_above.ensures in
          let raised = c.in_ok-settle.ensures.raised b (m ∷ R) choice.root path (link_of m ∷ out.joining.adding.stood.links) (subst (λ ms. IsRooted b (m ∷ R) choice.root path (link_of m ∷ out.joining.adding.stood.links) i.pruning.root ms (state_of i.graph)) (sym marks_are) (rooted before old b R m choice linkings out.joining path won.keep come units (held_of old) is_won)) quiet in
          won_received before old b R m choice linkings out.joining out.ready c.args.pathless (reverse c.args.found.items ++ before.found) out.knows out.are new moved refl (added ∙ ap (λ (xs : List Name). reverse c.args.found.items ++ xs) out.joining.found)
          path best won.keep come units is_won (get name_cmp c.rise.new.messages) raised c.in_ok-settle.ensures.overtaken
          (λ upper joined trunk at. c.rise.ensures.raised b (m ∷ R) choice.root upper joined (subst (IsTrunk b (m ∷ R) choice.root (upper ++ joined)) (sym switched_is) trunk) at)
          c.note.ensures c.roots_rise_to_cuts_above.ensures c.known_above.ensures c.found_above.ensures back refl),
    )

pub returns-clause-links : goal.returns-clause-links
returns-clause-links g c =
    let i = c.self.inside in
    let old : View = record { graph = i.graph; pruning = i.pruning; messages = i.messages.entries; branch = i.branch; found = reverse i.found.items; whole = i.whole } in
    let new : View = record old { graph = c.settle.new.graph; pruning = c.settle.new.pruning; messages = c.note.new.messages.entries; branch = c.rise.new.branch; found = reverse c.add_found.new.found.items } in
    subst (λ (v : View). KeepsNames v new) c.self.view_is c.in_ok-settle.ensures.links

-- ---- whatever the chain stands for

pub returns-clause-leads : goal.returns-clause-leads
returns-clause-leads g c =
    let i = c.self.inside in
    let won = c.args.won in
    let units : List ℕ = g.S.UnitStore.units won.text in
    let come : List Undo = won.undos.items in
    let br : State = i.branch.branch in
    let here : c.make_room.new.self.branch ≡ br = c.make_room.ensures.same in
    let keep_is : c.make_room.new.won.keep ≡ won.keep = c.make_room.ensures.keep in
    let come_is : c.make_room.new.won.undos.items ≡ come = c.make_room.ensures.undos in
    let units_is : g.S.UnitStore.units c.make_room.new.won.text ≡ units = ap g.S.UnitStore.units c.make_room.ensures.text in
    let old : View = record { graph = i.graph; pruning = i.pruning; messages = i.messages.entries; branch = i.branch; found = reverse i.found.items; whole = i.whole } in
    let back : c.new.result ≡ map move_back (take (length br.undos - won.keep) (reverse br.undos)) = c.new.ensures ∙ c.switch_to.ensures.reverted ∙ ap (λ (xs : List Move). xs ++ map move_back (take (length c.make_room.new.self.branch.undos - c.make_room.new.won.keep) (reverse c.make_room.new.self.branch.undos))) (c.in_ok-reserve.ensures.items ∙ c.new-leaves.ensures.items) ∙ (λ i. map move_back (take (length (here i).undos - keep_is i) (reverse (here i).undos))) in
    let came : List Move = map move_on (messages_at (held_of old) (map undone_name come)) in
    let moved : Moved = record { reverted = c.new.result; applied = came } in
    let same : c.args.tell ≡ true → moved ≡ record { reverted = c.new.result; applied = c.new-2.result } = λ tell. (λ i. record { reverted = c.new.result; applied = sym (c.new-2.ensures ∙ c.in_ok-comes.ensures tell ∙ ap (λ (us : List Undo). map move_on (messages_at (held_of old) (map undone_name us))) c.as_slice.ensures.value) i }) in
    let told = subst (λ (v : View). LeadsTo (held_of v) (text_below v.branch.branch won.keep) (tip_after v.branch.branch.root (reverse (take won.keep v.branch.branch.undos))) (reverse come) units) (sym c.self.view_is) c.requires.leads in
    let ended : c.rise.new.branch.branch.units ≡ units = c.rise.ensures.units ∙ ap (λ (s : State). s.units) c.switch_to.ensures.branch ∙ units_is in (
      moved,
      same,
      subst (λ (v : View). Leads (c.new.result ++ came) v.branch.branch.units c.rise.new.branch.branch.units) c.self.view_is
          (subst (Leads (c.new.result ++ came) br.units) (sym ended) (switch_leads br (held_of old) won.keep come (tip_after br.root (reverse (take won.keep br.undos))) units moved c.undos.ensures.rewinds told back refl)),
    )

pub returns-clause-many : goal.returns-clause-many
returns-clause-many g c =
    let i = c.self.inside in
    let won = c.args.won in
    let units : List ℕ = g.S.UnitStore.units won.text in
    let come : List Undo = won.undos.items in
    let br : State = i.branch.branch in
    let here : c.make_room.new.self.branch ≡ br = c.make_room.ensures.same in
    let keep_is : c.make_room.new.won.keep ≡ won.keep = c.make_room.ensures.keep in
    let come_is : c.make_room.new.won.undos.items ≡ come = c.make_room.ensures.undos in
    let units_is : g.S.UnitStore.units c.make_room.new.won.text ≡ units = ap g.S.UnitStore.units c.make_room.ensures.text in
    let old : View = record { graph = i.graph; pruning = i.pruning; messages = i.messages.entries; branch = i.branch; found = reverse i.found.items; whole = i.whole } in
    let back : c.new.result ≡ map move_back (take (length br.undos - won.keep) (reverse br.undos)) = c.new.ensures ∙ c.switch_to.ensures.reverted ∙ ap (λ (xs : List Move). xs ++ map move_back (take (length c.make_room.new.self.branch.undos - c.make_room.new.won.keep) (reverse c.make_room.new.self.branch.undos))) (c.in_ok-reserve.ensures.items ∙ c.new-leaves.ensures.items) ∙ (λ i. map move_back (take (length (here i).undos - keep_is i) (reverse (here i).undos))) in
    let came : List Move = map move_on (messages_at (held_of old) (map undone_name come)) in
    let moved : Moved = record { reverted = c.new.result; applied = came } in
    let same : c.args.tell ≡ true → moved ≡ record { reverted = c.new.result; applied = c.new-2.result } = λ tell. (λ i. record { reverted = c.new.result; applied = sym (c.new-2.ensures ∙ c.in_ok-comes.ensures tell ∙ ap (λ (us : List Undo). map move_on (messages_at (held_of old) (map undone_name us))) c.as_slice.ensures.value) i }) in
    let told = subst (λ (v : View). LeadsTo (held_of v) (text_below v.branch.branch won.keep) (tip_after v.branch.branch.root (reverse (take won.keep v.branch.branch.undos))) (reverse come) units) (sym c.self.view_is) c.requires.leads in
    let size : length br.undos ≡ length c.args.self.now.branch.branch.undos = ap (λ (v : View). length v.branch.branch.undos) c.self.view_is in (
      moved,
      same,
      (
        omega (arith, ap length back, length-map (take (length br.undos - won.keep) (reverse br.undos)) move_back, length-take (length br.undos - won.keep) (reverse br.undos), length-reverse br.undos, size),
        came_many (held_of old) (text_below br won.keep) (tip_after br.root (reverse (take won.keep br.undos))) come units told,
      ),
    )

pub returns-clause-found : goal.returns-clause-found
returns-clause-found g c =
    ap reverse c.add_found.ensures ∙ reverse-append c.reserve-2.new.self.items c.args.found.items ∙ ap (λ (xs : List Name). reverse c.args.found.items ++ reverse xs) c.in_ok-reserve-2.ensures.items ∙ ap (λ (v : View). reverse c.args.found.items ++ v.found) c.self.view_is
