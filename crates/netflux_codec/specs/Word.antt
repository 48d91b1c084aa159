-- The error words.
use Rattle.std.specs.Prelude.{ℕ, List, codes}
use Rattle.netflux_codec.specs.declared.word.Word.{Word}
use Rattle.netflux_codec.specs.declared.word.Word.TheVariants.{Einval, Ejoined, Enoent, Etoobig, Efull, Edamaged, Estore}

-- how an error word is written
abbrev pub word_text : Word → List ℕ
word_text Einval = codes "EINVAL"
word_text Ejoined = codes "EJOINED"
word_text Enoent = codes "ENOENT"
word_text Etoobig = codes "ETOOBIG"
word_text Efull = codes "EFULL"
word_text Edamaged = codes "EDAMAGED"
word_text Estore = codes "ESTORE"
