use Rattle.std.proofs.Common.{◌≡◌, ◌∙◌, inl, List, ℕ, length, IsTrue, refl, sym, subst}
use Rattle.disk_volume.specs.Lemmas.Since.{now_alone}
use Rattle.disk_volume.specs.Moments.{still}
use Rattle.log_format.specs.declared.form.Form.TheVariants.{One, Two}
use Rattle.log_format.specs.declared.form.Form.{Form}
use Rattle.log_format.specs.Frames.{size_of}
use Rattle.gated_log.specs.Ledger.{has_room}
use Rattle.keeper_channel.proofs.CallerLemmas.{logs_weaker}
use Rattle.keeper_channel.proofs.Slots.{live_now, live_room, by_name}
use Rattle.keeper_channel.specs.declared.refused.KeeperRefused.TheVariants.{Full, Damaged}
use Rattle.keeper_channel.proofs.Results.{err_of}
use Rattle.keeper_channel.proofs.keeping.store_entries.Goals as goal

pub returns-in-Err-clause-stored : goal.returns-in-Err-clause-stored
returns-in-Err-clause-stored g c = λ told held suspense is.
    let O = g.O.Ledger in let G = g.G.Ledger in let disk = g.V.Volume.disk c.args.volume.now in
    let one = c.args.one.now in let two = c.args.two.now in
    let now = live_now (O.opens_as One one) (G.opens_as Two two) (G.doubt Two two) O.holds G.holds
    (λ log. (O.name log ≡ one) × (O.form_of log ≡ One) × IsTrue (O.live log)) (λ log. (G.name log ≡ two) × (G.form_of log ≡ Two) × IsTrue (G.live log)) c.args.slot.logs held suspense disk
    (λ log payloads made holds. by_name O.opens_as O.name O.form_of O.live One one disk log payloads made (g.met.O.Ledger.holds_now log payloads disk holds))
    (λ log payloads made holds. by_name G.opens_as G.name G.form_of G.live Two two disk log payloads made (g.met.G.Ledger.holds_now log payloads disk holds))
    c.requires.made.made is.live in
    let many = length c.args.entries.now in let bytes = size_of c.args.entries.now in
    let room = live_room O.holds G.holds (G.doubt Two two) (λ log. (O.name log ≡ one) × (O.form_of log ≡ One) × IsTrue (O.live log)) (λ log. (G.name log ≡ two) × (G.form_of log ≡ Two) × IsTrue (G.live log))
    G.room c.args.slot.logs held suspense disk many bytes
    (λ log payloads made holds. subst (λ (f : Form). G.room log many bytes ≡ has_room f payloads many bytes) made.1 (g.met.G.Ledger.holds_room log payloads disk many bytes holds))
    c.requires.made.made is.live in
    record {
      each = λ image left. inl (inl (now image (now_alone disk image left)));
      left = tt;
      full = (
        (λ is_full. sym room ∙ (c.in-Err.ensures.full held is.indexed).0 (err_of c.in-Err.refused Full is_full)),
        (λ none. err_of c.in-Err.refused Full ((c.in-Err.ensures.full held is.indexed).1 (room ∙ none))),
      );
      nothing = λ is_full. (refl, refl);
      undamaged = λ damage found. c.in-Err.ensures.sound damage (err_of c.in-Err.refused (Damaged damage) found);
      spared = inl (is, (λ image left. inl (now image (now_alone disk image left))));
    }

pub returns-in-Ok-clause-stored : goal.returns-in-Ok-clause-stored
returns-in-Ok-clause-stored g c = λ told held suspense is. c.store_group.ensures.stored told held suspense is (c.in-Ok.ensures.room held is.indexed)

pub returns-in-Err-clause-files : goal.returns-in-Err-clause-files
returns-in-Err-clause-files g c = λ told. still

pub returns-in-Err-clause-full : goal.returns-in-Err-clause-full
returns-in-Err-clause-full g c = λ payloads is. (
  (λ full. (c.in-Err.ensures.full payloads is).0 (err_of c.in-Err.refused Full full)),
  (λ none. err_of c.in-Err.refused Full ((c.in-Err.ensures.full payloads is).1 none)),
)

pub returns-in-Ok-clause-full : goal.returns-in-Ok-clause-full
returns-in-Ok-clause-full g c = λ payloads is. (
  (λ full. absurd (c.store_group.ensures.full full)),
  (λ none. let e = (c.in-Ok.ensures.full payloads is).1 none in absurd (cc)),
)

pub returns-in-Ok-clause-nothing : goal.returns-in-Ok-clause-nothing
returns-in-Ok-clause-nothing g c = λ full. absurd (c.store_group.ensures.full full)

pub returns-in-Ok-clause-loaded : goal.returns-in-Ok-clause-loaded
returns-in-Ok-clause-loaded g c = λ full. absurd (c.store_group.ensures.full full)

pub returns-in-Err-clause-dropped : goal.returns-in-Err-clause-dropped
returns-in-Err-clause-dropped g c = λ damage found. absurd (c.in-Err.ensures.sound damage (err_of c.in-Err.refused (Damaged damage) found))

pub returns-in-Ok-clause-same : goal.returns-in-Ok-clause-same
returns-in-Ok-clause-same g c = λ full. absurd (c.store_group.ensures.full full)

pub frame_entries-requires-clause-live : goal.frame_entries-requires-clause-live
frame_entries-requires-clause-live g c =
    let O = g.O.Ledger in let G = g.G.Ledger in let one = c.args.one.now in let two = c.args.two.now in
    logs_weaker (λ log. (O.name log ≡ one) × (O.form_of log ≡ One) × IsTrue (O.live log)) (λ log. IsTrue (O.live log)) (λ log. (G.name log ≡ two) × (G.form_of log ≡ Two) × IsTrue (G.live log)) (λ log. IsTrue (G.live log))
    c.args.slot.logs (λ log is. is.2) (λ log is. is.2) c.requires.made.made
