use Rattle.std.proofs.Common.{◌≡◌, ℕ, List, subst}
use Rattle.netflux_codec.specs.declared.request_refused.RequestRefused.TheVariants.{Invalid}
use Rattle.netflux_codec.specs.Request.{IsSeqOf}
use Rattle.netflux_codec.proofs.Readings.{no_request, seq_first, seq_none}
use Rattle.netflux_codec.proofs.request_reading.read_request.Goals as goal

-- the number that is told is the one that was found
told : (text : List ℕ) (found seq : ℕ) → Invalid found ≡ Invalid seq → IsSeqOf text found → IsSeqOf text seq
told text found seq same is = let equal : found ≡ seq = cc in subst (IsSeqOf text) equal is

pub returns-in_default-clause-seq : goal.returns-in_default-clause-seq
returns-in_default-clause-seq c seq same =
    let none = rw c.in_default.is at c.in_ok-elements.ensures.found in
    told c.args.text.now 0 seq same (seq_none c.args.text.now none)

pub returns-clause-invalid : goal.returns-clause-invalid
returns-clause-invalid c seq same =
    let elements = rw c.in-Some.is at c.in_ok-elements.ensures.found in
    let none = rw c.in-None.is at c.in_ok-request.ensures in
    no_request c.args.text.now c.in-Some.elements.items c.as_slice.result.now c.as_slice.ensures.value elements none

pub returns-clause-seq : goal.returns-clause-seq
returns-clause-seq c seq same =
    let elements = rw c.in-Some.is at c.in_ok-elements.ensures.found in
    told c.args.text.now c.seq_of.result seq same
    (seq_first c.args.text.now c.in-Some.elements.items c.as_slice-in-None.result.now c.seq_of.result c.as_slice-in-None.ensures.value elements c.seq_of.ensures.given c.seq_of.ensures.absent)
