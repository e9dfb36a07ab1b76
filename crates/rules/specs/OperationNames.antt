-- The operations' names, as bytes of text.
use Rattle.std.specs.Prelude.{ℕ, List, [], ◌∷◌}

abbrev pub template : List ℕ
template = 116 ∷ 101 ∷ 109 ∷ 112 ∷ 108 ∷ 97 ∷ 116 ∷ 101 ∷ []

abbrev pub task : List ℕ
task = 116 ∷ 97 ∷ 115 ∷ 107 ∷ []

abbrev pub event : List ℕ
event = 101 ∷ 118 ∷ 101 ∷ 110 ∷ 116 ∷ []

abbrev pub block : List ℕ
block = 98 ∷ 108 ∷ 111 ∷ 99 ∷ 107 ∷ []

abbrev pub dependence : List ℕ
dependence = 100 ∷ 101 ∷ 112 ∷ 101 ∷ 110 ∷ 100 ∷ 101 ∷ 110 ∷ 99 ∷ 101 ∷ []

abbrev pub satisfy : List ℕ
satisfy = 115 ∷ 97 ∷ 116 ∷ 105 ∷ 115 ∷ 102 ∷ 121 ∷ []

abbrev pub release : List ℕ
release = 114 ∷ 101 ∷ 108 ∷ 101 ∷ 97 ∷ 115 ∷ 101 ∷ []

abbrev pub destroy : List ℕ
destroy = 100 ∷ 101 ∷ 115 ∷ 116 ∷ 114 ∷ 111 ∷ 121 ∷ []

abbrev pub deliver : List ℕ
deliver = 100 ∷ 101 ∷ 108 ∷ 105 ∷ 118 ∷ 101 ∷ 114 ∷ []

abbrev pub grant : List ℕ
grant = 103 ∷ 114 ∷ 97 ∷ 110 ∷ 116 ∷ []

abbrev pub start : List ℕ
start = 115 ∷ 116 ∷ 97 ∷ 114 ∷ 116 ∷ []

abbrev pub end : List ℕ
end = 101 ∷ 110 ∷ 100 ∷ []

abbrev pub counted : List ℕ
counted = 99 ∷ 111 ∷ 117 ∷ 110 ∷ 116 ∷ 101 ∷ 100 ∷ []
