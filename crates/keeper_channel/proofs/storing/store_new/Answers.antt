use Rattle.std.proofs.Common.{◌≡◌, ◌∙◌, inl, inr, Bool, false, refl, List, ℕ, [], ◌++◌, sym, ap, subst, length, arith}
use Rattle.disk_volume.specs.Disk.{reads}
use Rattle.disk_volume.specs.Moments.{EachSince, EachNow, still}
use Rattle.disk_volume.specs.Lemmas.Since.{now_alone}
use Rattle.keeper_channel.specs.Inside.Adding.{IsAdding}
use Rattle.gated_log.specs.Ledger.{Within}
use Rattle.log_format.specs.declared.form.Form.{Form}
use Rattle.log_format.specs.declared.form.Form.TheVariants.{One, Two}
use Rattle.gated_log.specs.Ledger.{has_room}
use Rattle.log_format.specs.Frames.{size_of}
use Rattle.keeper_channel.specs.Chan.{channel_room, IsList, IsWithin}
use Rattle.keeper_channel.proofs.Chans.{length-unmarked, marked_at, marker_more, unmarked_more}
use Rattle.keeper_channel.proofs.Rooms.{room_marked}
use Rattle.keeper_channel.proofs.Stays.{stored_each, stored_doubt, stored_added}
use Rattle.gated_log.specs.declared.refused.AppendRefused.TheVariants.{Store}
use Rattle.keeper_channel.proofs.Results.{same_refusal}
use Rattle.keeper_channel.proofs.storing.store_new.Goals as goal

pub returns-in-Err-Full-clause-added : goal.returns-in-Err-Full-clause-added
returns-in-Err-Full-clause-added g c = λ told held suspense is.
    let O = g.O.Ledger in let G = g.G.Ledger in let log = c.args.log in let name = g.G.Ledger.name c.args.log in
    let old = g.V.Volume.disk c.args.volume.now in
    let opens_one = O.opens_as One c.args.one.now in let opens_two = G.opens_as Two name in
    let doubt = G.doubt Two name (reads old) in
    let new = g.V.Volume.disk c.add_group.new.volume in
    let mid = c.reserve.new.self in
    let here = c.reserve.ensures.holds is.new old is.holds_new in
    let marked = marked_at is.new c.args.marker is.marked in
    let P : Form → List ℕ → Type 0 = λ f n. EachSince old new (λ image. IsAdding (G.opens_as f n image) is.new (G.doubt f n (reads old)) c.args.group.now) in
    let formed = c.reserve.ensures.form ∙ c.requires.form in
    let named = c.reserve.ensures.name in
    let each = stored_each opens_one opens_two is.new doubt held suspense c.args.group.now old new marked is.held_is is.suspense_is
    (subst (λ (n : List ℕ). P Two n) named (subst (λ (f : Form). P f (G.name mid)) formed (c.add_group.ensures.any_moment told is.new here))) in
    let Q : Form → List ℕ → Type 0 = λ f n. EachSince old new (λ image. Within (G.opens_as f n image) is.new (G.doubt f n (reads old))) in
    let by_doubt : Q (G.form_of mid) (G.name mid) → EachSince old new (λ image. IsWithin (IsList opens_one opens_two image) held suspense) = λ since.
    stored_doubt opens_one opens_two is.new doubt held suspense old new marked is.held_is is.suspense_is (subst (λ (n : List ℕ). Q Two n) named (subst (λ (f : Form). Q f (G.name mid)) formed since)) in
    let many = length c.args.group.now in
    let bytes = size_of c.args.group.now in
    let none : has_room Two is.new many bytes ≡ false =
    sym (subst (λ (f : Form). G.room log many bytes ≡ has_room f is.new many bytes) c.requires.form (g.met.G.Ledger.holds_room log is.new old many bytes is.holds_new))
    ∙ ap (λ (room : ℕ → ℕ → Bool). room many bytes) (sym c.reserve.ensures.room) ∙ c.in-Err-Full.ensures.full (rw c.in-Err-Full.field-0-is refl) in
    record {
      each = each;
      left = elim (c.in-Err-Full.ensures.left told is.new here) [ inl since ↦ inl (by_doubt since) | inr store ↦ let full = c.in-Err-Full.field-0-is in let other = same_refusal c.in-Err-Full.field-0 Store store.0 in absurd (cc (full, other)) ];
      full = λ is_full. subst (λ (l : List (List ℕ)). channel_room l many bytes ≡ false) (sym is.held_is) (sym (room_marked is.new many bytes marked) ∙ none);
      sound = λ damage is_damaged all. absurd (cc);
    }

pub returns-clause-added : goal.returns-clause-added
returns-clause-added g c = λ told held suspense is.
    let O = g.O.Ledger in let G = g.G.Ledger in let log = c.args.log in let name = g.G.Ledger.name c.args.log in
    let old = g.V.Volume.disk c.args.volume.now in
    let opens_one = O.opens_as One c.args.one.now in let opens_two = G.opens_as Two name in
    let doubt = G.doubt Two name (reads old) in
    let new = g.V.Volume.disk c.add_group.new.volume in
    let mid = c.reserve.new.self in
    let here = c.reserve.ensures.holds is.new old is.holds_new in
    let marked = marked_at is.new c.args.marker is.marked in
    let P : Form → List ℕ → Type 0 = λ f n. EachSince old new (λ image. IsAdding (G.opens_as f n image) is.new (G.doubt f n (reads old)) c.args.group.now) in
    let formed = c.reserve.ensures.form ∙ c.requires.form in
    let named = c.reserve.ensures.name in
    let each = stored_each opens_one opens_two is.new doubt held suspense c.args.group.now old new marked is.held_is is.suspense_is
    (subst (λ (n : List ℕ). P Two n) named (subst (λ (f : Form). P f (G.name mid)) formed (c.add_group.ensures.any_moment told is.new here))) in
    let Q : Form → List ℕ → Type 0 = λ f n. EachSince old new (λ image. Within (G.opens_as f n image) is.new (G.doubt f n (reads old))) in
    let by_doubt : Q (G.form_of mid) (G.name mid) → EachSince old new (λ image. IsWithin (IsList opens_one opens_two image) held suspense) = λ since.
    stored_doubt opens_one opens_two is.new doubt held suspense old new marked is.held_is is.suspense_is (subst (λ (n : List ℕ). Q Two n) named (subst (λ (f : Form). Q f (G.name mid)) formed since)) in
    let R : Form → List ℕ → Type 0 = λ f n. EachNow new (λ image. Within (G.opens_as f n image) is.new c.args.group.now) in
    record {
      each = each;
      left = elim (c.in-Err-Store.ensures.left told is.new here) [
        | inl since ↦ inl (by_doubt since)
        | inr store ↦ inr (
          refl,
          stored_added opens_one opens_two is.new held c.args.group.now new marked is.held_is
              (subst (λ (n : List ℕ). R Two n) named (subst (λ (f : Form). R f (G.name mid)) formed store.1)),
        )
      ];
      full = λ is_full. absurd (cc);
      sound = λ damage is_damaged all. absurd (cc);
    }

pub returns-in-Ok-clause-added : goal.returns-in-Ok-clause-added
returns-in-Ok-clause-added g c = λ told held suspense is.
    let O = g.O.Ledger in let G = g.G.Ledger in let log = c.args.log in let name = g.G.Ledger.name c.args.log in
    let old = g.V.Volume.disk c.args.volume.now in
    let opens_one = O.opens_as One c.args.one.now in let opens_two = G.opens_as Two name in
    let doubt = G.doubt Two name (reads old) in
    let new = g.V.Volume.disk c.add_group.new.volume in
    let mid = c.reserve.new.self in
    let here = c.reserve.ensures.holds is.new old is.holds_new in
    let P : Form → List ℕ → Type 0 = λ f n. EachSince old new (λ image. IsAdding (G.opens_as f n image) is.new (G.doubt f n (reads old)) c.args.group.now) in
    let marked = marked_at is.new c.args.marker is.marked in
    let formed = c.reserve.ensures.form ∙ c.requires.form in
    let named = c.reserve.ensures.name in
    let each = stored_each opens_one opens_two is.new doubt held suspense c.args.group.now old new marked is.held_is is.suspense_is
    (subst (λ (n : List ℕ). P Two n) named (subst (λ (f : Form). P f (G.name mid)) formed (c.add_group.ensures.any_moment told is.new here))) in
    let S : Form → List ℕ → Type 0 = λ f n. G.doubt f n (reads new) ≡ [] in
    record {
      each = each;
      left = (
        record {
          new = is.new ++ c.args.group.now;
          holds_new = c.in-Ok.ensures.ok told is.new here;
          marked = marker_more is.new c.args.group.now c.args.marker is.marked;
          held_is = ap (λ (l : List (List ℕ)). l ++ c.args.group.now) is.held_is ∙ sym (unmarked_more is.new c.args.group.now marked);
          suspense_is = sym (subst (λ (n : List ℕ). S Two n) (c.add_group.ensures.name ∙ named) (subst (λ (f : Form). S f (G.name c.add_group.new.log)) (c.add_group.ensures.form ∙ formed) (c.in-Ok.ensures.sure told is.new here)));
        },
        omega (
          arith,
          c.saturating_sub.ensures,
          c.in-Ok.ensures.index,
          c.reserve.ensures.count,
          g.met.G.Ledger.holds_count log is.new old is.holds_new,
          length-unmarked is.new marked,
          ap (λ (l : List (List ℕ)). length l) is.held_is,
        ),
      );
      full = λ is_full. absurd (cc);
      sound = λ damage is_damaged all. absurd (cc);
    }

pub returns-then-is_err-clause-added : goal.returns-then-is_err-clause-added
returns-then-is_err-clause-added g c = λ told held suspense is.
    let O = g.O.Ledger in let G = g.G.Ledger in let log = c.args.log in let name = g.G.Ledger.name c.args.log in
    let old = g.V.Volume.disk c.args.volume.now in
    let opens_one = O.opens_as One c.args.one.now in let opens_two = G.opens_as Two name in
    let doubt = G.doubt Two name (reads old) in
    let rests = subst (λ (f : Form). G.rests f name old) c.requires.form (g.met.G.Ledger.holds_rests log is.new old is.holds_new) in
    let opens = subst (λ (f : Form). G.opens_as f name (reads old) is.new) c.requires.form (g.met.G.Ledger.holds_reads log is.new old is.holds_new) in
    let now = g.met.G.Ledger.rests_now Two name old is.new rests opens in
    let marked = marked_at is.new c.args.marker is.marked in
    record {
      each = stored_each opens_one opens_two is.new doubt held suspense c.args.group.now old old marked is.held_is is.suspense_is (λ image left. inl (inl (now image (now_alone old image left))));
      left = inl (stored_doubt opens_one opens_two is.new doubt held suspense old old marked is.held_is is.suspense_is (λ image left. inl (now image (now_alone old image left))));
      full = λ is_full. absurd (cc);
      sound = λ damage is_damaged all. absurd (cc);
    }

pub returns-then-is_err-clause-files : goal.returns-then-is_err-clause-files
returns-then-is_err-clause-files g c = λ told. still

pub returns-in-Ok-clause-counted : goal.returns-in-Ok-clause-counted
returns-in-Ok-clause-counted g c = λ count has. omega (arith, has, c.in-Ok.ensures.counted, c.reserve.ensures.count)
