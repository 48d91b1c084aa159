use Rattle.std.proofs.Common.{◌≡◌, ◌∙◌, inl, ℕ, ◌+◌, ◌++◌, List, length, false, true, IsTrue, sym, subst, ap}
use Rattle.disk_volume.specs.Lemmas.Since.{now_alone}
use Rattle.disk_volume.specs.Moments.{still}
use Rattle.log_format.specs.declared.form.Form.TheVariants.{One, Two}
use Rattle.log_format.specs.Frames.{size_of}
use Rattle.keeper_channel.specs.Chan.{channel_room}
use Rattle.keeper_channel.proofs.Slots.{live_now, by_name}
use Rattle.keeper_channel.specs.Entries.{AreEntries}
use Rattle.keeper_entry.specs.Index.{IsIndex}
use Rattle.keeper_channel.specs.Slot.{IsStored}
use Rattle.keeper_channel.proofs.keeping.store_group.Goals as goal

pub returns-in-Err-clause-stored : goal.returns-in-Err-clause-stored
returns-in-Err-clause-stored g c = λ told held suspense is room.
    let O = g.O.Ledger in let G = g.G.Ledger in let disk = g.V.Volume.disk c.args.volume.now in
    let one = c.args.one.now in let two = c.args.two.now in
    let now = live_now (O.opens_as One one) (G.opens_as Two two) (G.doubt Two two) O.holds G.holds
    (λ log. (O.name log ≡ one) × (O.form_of log ≡ One) × IsTrue (O.live log)) (λ log. (G.name log ≡ two) × (G.form_of log ≡ Two) × IsTrue (G.live log)) c.args.slot.logs held suspense disk
    (λ log payloads made holds. by_name O.opens_as O.name O.form_of O.live One one disk log payloads made (g.met.O.Ledger.holds_now log payloads disk holds))
    (λ log payloads made holds. by_name G.opens_as G.name G.form_of G.live Two two disk log payloads made (g.met.G.Ledger.holds_now log payloads disk holds))
    c.requires.made.made is.live in
    record {
      each = λ image left. inl (inl (now image (now_alone disk image left)));
      left = tt;
      full = ((λ is_full. absurd (cc)), (λ none. let e : true ≡ false = sym room ∙ none in absurd (cc)));
      nothing = λ is_full. absurd (cc);
      undamaged = λ damage found. absurd (cc);
      spared = inl ((λ image left. inl (now image left)), (λ image left. inl (now image (now_alone disk image left))));
    }

pub returns-in-Ok-clause-stored : goal.returns-in-Ok-clause-stored
returns-in-Ok-clause-stored g c = λ told held suspense is room.
    let O = g.O.Ledger in let G = g.G.Ledger in
    let old = g.V.Volume.disk c.args.volume.now in let new = g.V.Volume.disk c.store_indexed.new.volume in
    let P : List (List ℕ) → Type 0 = λ group. AreEntries group → IsIndex c.add_entries.new.index (held ++ group) → channel_room held (length group) (size_of group) ≡ true
    → IsStored (O.opens_as One c.args.one.now) (G.opens_as Two c.args.two.now) (G.doubt Two c.args.two.now) O.holds G.holds held suspense group c.store_indexed.result.slot c.store_indexed.result.answer old new in
    subst P c.requires.group (c.store_indexed.ensures.stored told held suspense is.live is.entries) c.requires.entries (c.in-Ok.ensures.added held is.indexed) room

pub store_indexed-requires-clause-counted : goal.store_indexed-requires-clause-counted
store_indexed-requires-clause-counted g c =
    (c.args.slot.index.count, c.requires.made.counted, c.in-Ok.ensures.count ∙ ap (λ (l : List (List ℕ)). c.args.slot.index.count + length l) (sym c.requires.group))

pub returns-in-Err-clause-files : goal.returns-in-Err-clause-files
returns-in-Err-clause-files g c = λ told. still

pub store_indexed-requires-clause-indexed : goal.store_indexed-requires-clause-indexed
store_indexed-requires-clause-indexed g c = let before = c.requires.made.indexed in (before.0 ++ c.args.entries.now, c.in-Ok.ensures.added before.0 before.1)
