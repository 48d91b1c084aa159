-- How a run of `serve` ends.
use Rattle.std.proofs.Common.{◌≡◌, ◌≢◌, ◌∙◌, inl, inr, ℕ, List, Option, sym, subst}
use Rattle.std.specs.Io.KnownBytes.{Appends}
use Rattle.pad_output.specs.Output.{AppendsPart, AppendsSome}
use Rattle.pad_top.specs.declared.status.Status.{Status}
use Rattle.pad_top.specs.declared.status.Status.TheVariants as status
use Rattle.pad_top.specs.Inside.Ending.{IsEnd}
use Rattle.pad_top.specs.Serve.{ServeEnds, ServeIsCutShort}

-- the line of a status was written, before which nothing was, and the run ended so
pub line_ends : {S : Type 0} (written : S → Option (List ℕ)) (done : ℕ → Type 0) (stopped store_failed link_failed : Type 0) (old mid new : S) (write_failed : Type 0) (text line : List ℕ) (wanted result : Status)
    → mid ≡ old → text ≡ line → ServeEnds done stopped store_failed link_failed wanted line → IsEnd (written mid) (written new) write_failed text wanted result
    → result ≢ status.WriteFault → AppendsSome (ServeEnds done stopped store_failed link_failed result) (written old) (written new)
line_ends written done stopped store_failed link_failed old mid new write_failed text line wanted result same is ends (inl whole) other =
    subst (λ s. AppendsSome (ServeEnds done stopped store_failed link_failed s) (written old) (written new)) (sym whole.0)
    (line, ends, subst (λ it. Appends (written it) (written new) line) same (subst (Appends (written mid) (written new)) is whole.1))
line_ends written done stopped store_failed link_failed old mid new write_failed text line wanted result same is ends (inr part) other = absurd (other part.0)

-- the line of a status was written in part
pub line_cut : {S : Type 0} (written : S → Option (List ℕ)) (done : ℕ → Type 0) (stopped store_failed link_failed : Type 0) (old mid new : S) (write_failed : Type 0) (text line : List ℕ) (wanted result : Status)
    → mid ≡ old → text ≡ line → ServeEnds done stopped store_failed link_failed wanted line → IsEnd (written mid) (written new) write_failed text wanted result
    → result ≡ status.WriteFault → ServeIsCutShort done stopped store_failed link_failed (written old) (written new)
line_cut written done stopped store_failed link_failed old mid new write_failed text line wanted result same is ends (inl whole) cut =
    absurd (subst (λ s. ServeEnds done stopped store_failed link_failed s line) (sym whole.0 ∙ cut) ends)
line_cut written done stopped store_failed link_failed old mid new write_failed text line wanted result same is ends (inr part) cut =
    (wanted, (line, ends, subst (λ it. AppendsPart (written it) (written new) line) same (subst (AppendsPart (written mid) (written new)) is part.2)))
