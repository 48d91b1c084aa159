-- The texts of a history, one entry after another.
use Rattle.std.proofs.Common.{◌≡◌, ◌∙◌, ℕ, zero, suc, ◌+◌, ◌≤◌, ◌<◌, List, [], ◌∷◌, ◌++◌, length, drop, Option, Some, None, refl, sym, ap, arith}
use Rattle.std.specs.Prelude.{slice_get}
use Rattle.std.proofs.lemmas.List.{append-nil, append_assoc}
use Rattle.keeper_entry.specs.History.{first_from}
use Rattle.keeper_table.specs.Entry.{entry_in}
use Rattle.keeper_state.specs.Entries.{entries_from}
use Rattle.keeper_table.specs.Span.{found_at}
use Rattle.keeper_table.specs.declared.entry.Entry.{Entry}
use Rattle.keeper_table.specs.declared.span.Span.{Span}
use Rattle.keeper_table.specs.declared.span.Span.TheVariants as span
use Rattle.netflux_codec.specs.Reply.{HasSmallCounts}
use Rattle.netflux_codec.specs.declared.ask.Ask.{Ask}
use Rattle.netflux_codec.specs.declared.ask.Ask.TheVariants.{History, At}
use Rattle.netflux_codec.specs.declared.reply.Reply.{Reply}
use Rattle.netflux_codec.specs.declared.reply.Reply.TheVariants as reply
use Rattle.netflux_codec.specs.declared.reply.TheConstants.{MOST_ENTRIES}
use Rattle.netflux_codec.specs.declared.since.Since.TheVariants as since
use Rattle.netflux_rooms.specs.Rooms.{tell}
use Rattle.serve_loop.specs.Hangs.{HangsAfter}
use Rattle.serve_loop.specs.declared.out.Out.{Out}
use Rattle.netflux_core.specs.Histories.{span_for, entry_reply, tell_entries, told_entries, end_reply, answered}

-- a list from a place on begins with what stands there
pub drop_step : (xs : List (List ℕ)) (i : ℕ) (x : List ℕ) → slice_get xs i ≡ Some x → drop i xs ≡ x ∷ drop (suc i) xs
drop_step [] i x got = absurd (cc)
drop_step (y ∷ xs) zero x got = let same : y ≡ x = cc in ap (λ (z : List ℕ). z ∷ xs) same
drop_step (y ∷ xs) (suc i) x got = drop_step xs i x got

-- nothing of it comes from its end on
pub drop_past : (xs : List (List ℕ)) (i : ℕ) → length xs ≤ i → drop i xs ≡ []
drop_past [] zero past = refl
drop_past [] (suc i) past = refl
drop_past (x ∷ xs) zero past = absurd (omega (arith, past))
drop_past (x ∷ xs) (suc i) past = drop_past xs i (omega (arith, past))

-- a history that starts somewhere ends with the count of all
pub total_of : (ask : Ask) (held : List (List ℕ)) (start total : ℕ) → span.Found start total ≡ span_for ask held → total ≡ length held
total_of (History channel since.Default) held start total is = cc
total_of (History channel since.All) held start total is = cc
total_of (History channel (since.Known key)) held start total is = by (first_from key 0 held) is
  where
    by : (found : Option ℕ) → span.Found start total ≡ found_at found (length held) → total ≡ length held
    by None is = absurd (cc)
    by (Some first) is = cc
total_of (At channel index) held start total is = cc

-- an index that is not too great makes a text that may be written
pub small_entry : (keeper : List ℕ) (ask : Ask) (index : ℕ) (entry : Entry) → index < MOST_ENTRIES → HasSmallCounts (entry_reply keeper ask index entry)
small_entry keeper (History channel from) index entry less = omega (arith, less)
small_entry keeper (At channel at) index entry less = omega (arith, less)

-- an entry has the text that its index asks for
pub at_index : (keeper : List ℕ) (ask : Ask) (index : ℕ) (entry : Entry) → entry_reply keeper ask index entry ≡ entry_reply keeper ask index (record entry { index = index })
at_index keeper (History channel from) index entry = refl
at_index keeper (At channel at) index entry = refl

module _ (keeper : List ℕ) (number : ℕ) (ask : Ask) (held : List (List ℕ)) where
  abbrev pub told_at : ℕ → List Out
  told_at index = tell_entries keeper number ask (entries_from index (drop index held))

  -- the entry at a place is told before those behind it
  pub told_more : (index : ℕ) (payload : List ℕ) → slice_get held index ≡ Some payload
      → told_at index ≡ tell number (entry_reply keeper ask index (entry_in index payload)) ∷ told_at (index + 1)
  told_more index payload got =
      let next : suc index ≡ index + 1 = omega arith in
      ap (λ (l : List (List ℕ)). tell_entries keeper number ask (entries_from index l)) (drop_step held index payload got)
      ∙ ap (λ (i : ℕ). tell number (entry_reply keeper ask index (entry_in index payload)) ∷ told_at i) next

  -- one more is told
  tells_more : (entries : List Entry) (entry : Entry) → tell_entries keeper number ask (entries ++ entry ∷ []) ≡ tell_entries keeper number ask entries ++ tell number (entry_reply keeper ask entry.index entry) ∷ []
  tells_more [] entry = refl
  tells_more (first ∷ entries) entry = ap (λ (l : List Out). tell number (entry_reply keeper ask first.index first) ∷ l) (tells_more entries entry)

  -- behind those told so far
  pub one_more : (entries : List Entry) (entry : Entry) (before mid after : List Out) → mid ≡ before ++ tell_entries keeper number ask entries
      → after ≡ mid ++ tell number (entry_reply keeper ask entry.index entry) ∷ [] → after ≡ before ++ tell_entries keeper number ask (entries ++ entry ∷ [])
  one_more entries entry before mid after is_mid is_after =
      is_after ∙ ap (λ (l : List Out). l ++ tell number (entry_reply keeper ask entry.index entry) ∷ []) is_mid
      ∙ append_assoc before (tell_entries keeper number ask entries) (tell number (entry_reply keeper ask entry.index entry) ∷ [])
      ∙ ap (λ (l : List Out). before ++ l) (sym (tells_more entries entry))

  -- once it is pushed, what is told so far and those behind it are the same as before
  pub pushed_more : (index : ℕ) (payload : List ℕ) (entry : Entry) (made : Reply) (before after : List Out) → after ≡ before ++ tell number made ∷ []
      → made ≡ entry_reply keeper ask index entry → entry ≡ entry_in index payload → slice_get held index ≡ Some payload
      → after ++ told_at (index + 1) ≡ before ++ told_at index
  pushed_more index payload entry made before after pushed is_reply is_entry got =
      ap (λ (l : List Out). l ++ told_at (index + 1)) pushed
      ∙ append_assoc before (tell number made ∷ []) (told_at (index + 1))
      ∙ ap (λ (r : Reply). before ++ tell number r ∷ told_at (index + 1)) (is_reply ∙ ap (λ (e : Entry). entry_reply keeper ask index e) is_entry)
      ∙ ap (λ (l : List Out). before ++ l) (sym (told_more index payload got))

  -- at the end all are told
  pub told_all : (index start : ℕ) (before after : List Out) → length held ≤ index → after ++ told_at index ≡ before ++ told_at start → after ≡ before ++ told_at start
  told_all index start before after past so_far =
      sym (append-nil after) ∙ ap (λ (l : List (List ℕ)). after ++ tell_entries keeper number ask (entries_from index l)) (sym (drop_past held index past)) ∙ so_far

-- the acknowledgement, then what is told, then the end
pub told_whole : (keeper : List ℕ) (number seq : ℕ) (ask : Ask) (held : List (List ℕ)) (from : Span) (end : Reply) (first mid last : List Out)
    → first ≡ tell number (reply.Ack seq) ∷ [] → mid ≡ first ++ tell_entries keeper number ask (told_entries ask held from) → last ≡ mid ++ tell number end ∷ []
    → end ≡ end_reply keeper ask from → from ≡ span_for ask held → last ≡ answered keeper number seq ask held
told_whole keeper number seq ask held from end first mid last is_first is_mid is_last is_end is_from =
    is_last ∙ ap (λ (m : List Out). m ++ tell number end ∷ []) is_mid
    ∙ ap (λ (f : List Out). (f ++ tell_entries keeper number ask (told_entries ask held from)) ++ tell number end ∷ []) is_first
    ∙ ap (λ (r : Reply). tell number (reply.Ack seq) ∷ (tell_entries keeper number ask (told_entries ask held from) ++ tell number r ∷ [])) is_end
    ∙ ap (λ (s : Span). tell number (reply.Ack seq) ∷ (tell_entries keeper number ask (told_entries ask held s) ++ tell number (end_reply keeper ask s) ∷ [])) is_from

-- texts of entries hang nobody up
pub entries_hang : (last : List ℕ) (keeper : List ℕ) (number : ℕ) (ask : Ask) (entries : List Entry) (more : List Out) → ((last : List ℕ) → HangsAfter last more)
    → HangsAfter last (tell_entries keeper number ask entries ++ more)
entries_hang last keeper number ask [] more hangs = hangs last
entries_hang last keeper number ask (entry ∷ entries) more hangs = entries_hang (number ∷ []) keeper number ask entries more hangs
