-- Who joined a channel: a connection, or the keeper.
use Rattle.std.specs.Prelude.{ℕ, List}
use Rattle.pad_text.specs.Digits.{IsDigits}
use Rattle.netflux_codec.specs.declared.who.Who.{Who}
use Rattle.netflux_codec.specs.declared.who.Who.TheVariants.{Member, Keeper}

-- the digits of the identity
abbrev pub who_digits : Who → List ℕ
who_digits (Member id) = id
who_digits (Keeper keeper) = keeper

-- a connection has 32 digits, and the keeper 16
abbrev pub IsWho : Who → Type 0
IsWho (Member id) = IsDigits 32 id
IsWho (Keeper keeper) = IsDigits 16 keeper
