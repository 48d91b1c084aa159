-- What a client is told when its request is refused.
use Rattle.std.specs.Prelude.{◌≡◌, ◌⊎◌, ℕ, ◌+◌, List, [], ◌∷◌, Result, Ok, Err}
use Rattle.keeper_channel.specs.declared.refused.KeeperRefused.{KeeperRefused}
use Rattle.keeper_channel.specs.declared.refused.KeeperRefused.TheVariants as refused
use Rattle.netflux_codec.specs.declared.word.Word.TheVariants as word
use Rattle.netflux_rooms.specs.Rooms.{error}
use Rattle.serve_loop.specs.declared.out.Out.{Out}

-- The error for a refusal of the keeper, to the connection that asked. There is none for want of memory.
abbrev pub Refuses : (number seq : ℕ) → (about : List ℕ) → KeeperRefused → List Out → Type 0
Refuses number seq about refused.Full outs = outs ≡ error number seq word.Efull about
Refuses number seq about refused.Store outs = outs ≡ error number seq word.Estore about
Refuses number seq about (refused.Damaged damage) outs = outs ≡ error number seq word.Edamaged about
Refuses number seq about (refused.NoMemory memory) outs = ⊥

-- one more failure if the refusal is that the volume failed
abbrev pub failures_after : {T : Type 0} → ℕ → Result T KeeperRefused → ℕ
failures_after failures (Ok value) = failures
failures_after failures (Err refused.Full) = failures
failures_after failures (Err refused.Store) = failures + 1
failures_after failures (Err (refused.Damaged damage)) = failures
failures_after failures (Err (refused.NoMemory memory)) = failures

-- `ESTORE` and nothing else
abbrev pub IsStoreError : List Out → Type 0
IsStoreError outs = (number : ℕ) × (seq : ℕ) × (about : List ℕ) × (outs ≡ error number seq word.Estore about)

-- the outputs of some step are that
abbrev pub HasStoreError : List (List Out) → Type 0
HasStoreError [] = ⊥
HasStoreError (outs ∷ outputs) = IsStoreError outs ⊎ HasStoreError outputs
