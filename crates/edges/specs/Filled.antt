-- P5: a list of calls that fills a session. It is too long to be computed: each template is one more object, and main runs on.
use Rattle.std.specs.Prelude.{ℕ, zero, suc, ◌+◌, List, [], ◌∷◌, ◌++◌}
use Rattle.session.specs.declared.Field.TheVariants.{Objects}
use Rattle.session.specs.Names.{most_objects}
use Rattle.rules.specs.Formula.{Formula.◌≐◌}
use Rattle.rules.specs.Edges.{Expected, Edge, done, refused, running_main}

-- n templates, the first with handle h
unfoldable pub making : ℕ → ℕ → List Expected
making zero h = []
making (suc n) h = done 1 (2 ∷ 0 ∷ []) h ∷ making n (h + 1)

-- how many handles there are beside block 1 and main: 3 to 512
abbrev pub handles_left : ℕ
handles_left = 510

-- "P5 handle 512 is made, the next gives 20": main makes them all, and then asks for one more.
abbrev pub p5 : Edge
p5 = running_main (making handles_left 3 ++ refused 1 (2 ∷ 0 ∷ []) 20 ∷ []) (λ s. s Objects 0 ≐ most_objects)
