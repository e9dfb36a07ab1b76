-- Made by `python3 tests/make_cases.py` from lists and answers of the second engine: edit that and not this file.
-- Each list of calls is that of its seed: the answers, and a sound session after each call.
use Rattle.std.specs.Prelude.{◌≡◌, refl, true, [], ◌∷◌}
use Rattle.rules.specs.Step.{fresh_session}
use Rattle.cases.specs.Along.{line, sound_along}

seed3296 : sound_along fresh_session (
    line 10 (2 ∷ []) 0 0
    ∷ line 11 (2 ∷ []) 0 0
    ∷ line 3 (2 ∷ 2 ∷ []) 0 3
    ∷ line 6 (2 ∷ 3 ∷ 1 ∷ 0 ∷ []) 0 0
    ∷ line 6 (2 ∷ 3 ∷ 1 ∷ 0 ∷ []) 0 0
    ∷ line 5 (2 ∷ 3 ∷ 3 ∷ 0 ∷ 4 ∷ []) 0 1
    ∷ line 6 (2 ∷ 0 ∷ 1 ∷ 1 ∷ []) 9 0
    ∷ line 9 (1 ∷ []) 0 0
    ∷ line 1 (2 ∷ 3 ∷ []) 0 4
    ∷ line 2 (2 ∷ 4 ∷ 17 ∷ 1 ∷ 1 ∷ []) 0 5
    ∷ line 6 (2 ∷ 6 ∷ 1 ∷ 0 ∷ []) 10 0
    ∷ line 4 (2 ∷ 1 ∷ []) 0 7
    ∷ line 5 (2 ∷ 19 ∷ 3 ∷ 0 ∷ 3 ∷ []) 9 0
    ∷ line 1 (2 ∷ 0 ∷ []) 0 8
    ∷ line 11 (2 ∷ []) 16 0
    ∷ line 5 (2 ∷ 1 ∷ 5 ∷ 2 ∷ 3 ∷ []) 0 0
    ∷ line 5 (2 ∷ 2048 ∷ 5 ∷ 1 ∷ 4 ∷ []) 9 0
    ∷ line 4 (2 ∷ 0 ∷ []) 0 9
    ∷ line 8 (2 ∷ 8 ∷ []) 0 0
    ∷ line 8 (2 ∷ 5 ∷ []) 0 1
    ∷ line 5 (2 ∷ 1 ∷ 3 ∷ 0 ∷ 3 ∷ []) 0 0
    ∷ line 5 (128 ∷ 10 ∷ 4294967298 ∷ 9223372036854775808 ∷ 511 ∷ []) 7 0
    ∷ line 6 (2 ∷ 3 ∷ 1 ∷ 0 ∷ []) 0 0
    ∷ line 9 (2048 ∷ []) 9 0
    ∷ line 6 (1 ∷ 3 ∷ 7 ∷ 0 ∷ []) 8 0
    ∷ []) ≡ true
unfolding sound_along
seed3296 = refl

seed3991 : sound_along fresh_session (
    line 10 (2 ∷ []) 0 0
    ∷ line 11 (2 ∷ []) 0 0
    ∷ line 3 (0 ∷ 1 ∷ []) 8 0
    ∷ line 1 (2 ∷ 17 ∷ []) 0 3
    ∷ line 2 (2 ∷ 3 ∷ 1 ∷ 0 ∷ 1 ∷ []) 0 4
    ∷ line 7 (9223372036854775808 ∷ 8342258520680627009 ∷ []) 8 0
    ∷ line 3 (2 ∷ 1 ∷ []) 0 6
    ∷ line 4 (2 ∷ 0 ∷ []) 0 7
    ∷ line 7 (2 ∷ 7 ∷ []) 15 0
    ∷ line 7 (2 ∷ 7 ∷ []) 15 0
    ∷ line 5 (2 ∷ 7 ∷ 4 ∷ 0 ∷ 1 ∷ []) 0 0
    ∷ line 5 (2 ∷ 0 ∷ 6 ∷ 0 ∷ 1 ∷ []) 0 0
    ∷ line 7 (0 ∷ 1 ∷ []) 8 0
    ∷ line 8 (2 ∷ 4 ∷ []) 0 1
    ∷ line 7 (2 ∷ 1 ∷ []) 0 0
    ∷ line 3 (2 ∷ 3 ∷ []) 0 8
    ∷ line 2 (2 ∷ 3 ∷ 3 ∷ 1 ∷ 0 ∷ []) 0 9
    ∷ line 10 (18 ∷ []) 9 0
    ∷ line 5 (0 ∷ 8 ∷ 8 ∷ 1 ∷ 3 ∷ []) 8 0
    ∷ line 6 (2 ∷ 8 ∷ 1 ∷ 0 ∷ []) 0 0
    ∷ line 5 (2 ∷ 8 ∷ 9 ∷ 0 ∷ 2 ∷ []) 0 1
    ∷ line 8 (2 ∷ 4 ∷ []) 11 0
    ∷ line 5 (2 ∷ 6 ∷ 9 ∷ 2 ∷ 1 ∷ []) 11 0
    ∷ line 9 (1 ∷ []) 0 0
    ∷ line 5 (2 ∷ 8 ∷ 9 ∷ 0 ∷ 2 ∷ []) 13 0
    ∷ []) ≡ true
unfolding sound_along
seed3991 = refl

seed4356 : sound_along fresh_session (
    line 10 (2 ∷ []) 0 0
    ∷ line 11 (2 ∷ []) 0 0
    ∷ line 10 (2 ∷ []) 16 0
    ∷ line 8 (2 ∷ 2 ∷ []) 16 0
    ∷ line 5 (128 ∷ 0 ∷ 0 ∷ 0 ∷ 4 ∷ []) 8 0
    ∷ line 1 (2 ∷ 16 ∷ []) 0 3
    ∷ line 7 (2 ∷ 1 ∷ []) 0 0
    ∷ line 2 (2 ∷ 2 ∷ 16 ∷ 1 ∷ 0 ∷ []) 10 0
    ∷ line 3 (2 ∷ 0 ∷ []) 7 0
    ∷ line 3 (2 ∷ 4 ∷ []) 0 4
    ∷ line 2 (2 ∷ 3 ∷ 16 ∷ 1 ∷ 0 ∷ []) 0 5
    ∷ line 11 (0 ∷ []) 9 0
    ∷ line 8 (17 ∷ 6 ∷ []) 8 0
    ∷ line 8 (2 ∷ 5 ∷ []) 0 1
    ∷ line 3 (2 ∷ 1 ∷ []) 0 6
    ∷ line 6 (2 ∷ 4 ∷ 1 ∷ 1 ∷ []) 0 0
    ∷ line 5 (2 ∷ 1 ∷ 4 ∷ 1 ∷ 3 ∷ []) 0 0
    ∷ line 3 (2 ∷ 4 ∷ []) 0 7
    ∷ line 5 (2 ∷ 0 ∷ 0 ∷ 0 ∷ 2 ∷ []) 9 0
    ∷ line 3 (2 ∷ 1 ∷ []) 0 8
    ∷ line 5 (2 ∷ 1 ∷ 4 ∷ 1 ∷ 1 ∷ []) 0 0
    ∷ line 2 (2 ∷ 3 ∷ 17 ∷ 1 ∷ 0 ∷ []) 0 9
    ∷ line 2 (0 ∷ 3 ∷ 17 ∷ 1 ∷ 0 ∷ []) 8 0
    ∷ line 4 (0 ∷ 0 ∷ []) 8 0
    ∷ line 11 (0 ∷ []) 9 0
    ∷ []) ≡ true
unfolding sound_along
seed4356 = refl

seed4415 : sound_along fresh_session (
    line 5 (0 ∷ 0 ∷ 0 ∷ 0 ∷ 1 ∷ []) 8 0
    ∷ line 5 (0 ∷ 0 ∷ 18446744073709551615 ∷ 0 ∷ 4 ∷ []) 8 0
    ∷ line 10 (1 ∷ []) 10 0
    ∷ line 10 (2 ∷ []) 0 0
    ∷ line 6 (0 ∷ 0 ∷ 1 ∷ 0 ∷ []) 8 0
    ∷ line 11 (2 ∷ []) 0 0
    ∷ line 4 (2 ∷ 1 ∷ []) 0 3
    ∷ line 8 (2 ∷ 1 ∷ []) 0 0
    ∷ line 1 (2 ∷ 0 ∷ []) 0 4
    ∷ line 5 (2 ∷ 0 ∷ 0 ∷ 1 ∷ 4 ∷ []) 9 0
    ∷ line 10 (2 ∷ []) 16 0
    ∷ line 10 (4294967296 ∷ []) 9 0
    ∷ line 3 (2 ∷ 4 ∷ []) 0 5
    ∷ line 4 (2 ∷ 0 ∷ []) 0 6
    ∷ line 11 (0 ∷ []) 9 0
    ∷ line 2 (2 ∷ 4 ∷ 17 ∷ 1 ∷ 0 ∷ []) 0 7
    ∷ line 6 (2 ∷ 5 ∷ 3 ∷ 0 ∷ []) 0 0
    ∷ line 5 (2 ∷ 5 ∷ 5 ∷ 1 ∷ 3 ∷ []) 0 1
    ∷ line 5 (2 ∷ 0 ∷ 0 ∷ 0 ∷ 4 ∷ []) 9 0
    ∷ line 6 (2 ∷ 5 ∷ 3 ∷ 1 ∷ []) 0 0
    ∷ line 10 (7 ∷ []) 0 0
    ∷ line 4 (2 ∷ 5 ∷ []) 7 0
    ∷ line 9 (1 ∷ []) 0 0
    ∷ line 6 (5 ∷ 0 ∷ 3 ∷ 0 ∷ []) 8 0
    ∷ line 11 (7 ∷ []) 0 0
    ∷ []) ≡ true
unfolding sound_along
seed4415 = refl

seed6252 : sound_along fresh_session (
    line 10 (2 ∷ []) 0 0
    ∷ line 11 (2 ∷ []) 0 0
    ∷ line 1 (2 ∷ 13 ∷ []) 0 3
    ∷ line 3 (2 ∷ 2 ∷ []) 0 4
    ∷ line 5 (2 ∷ 4 ∷ 4 ∷ 0 ∷ 2 ∷ []) 0 1
    ∷ line 10 (18446744073709551614 ∷ []) 9 0
    ∷ line 4 (2 ∷ 0 ∷ []) 0 5
    ∷ line 6 (2 ∷ 4 ∷ 1 ∷ 0 ∷ []) 0 0
    ∷ line 2 (2 ∷ 3 ∷ 13 ∷ 1 ∷ 1 ∷ []) 0 6
    ∷ line 5 (2 ∷ 4 ∷ 6 ∷ 8 ∷ 1 ∷ []) 0 2
    ∷ line 6 (2 ∷ 4 ∷ 1 ∷ 0 ∷ []) 0 0
    ∷ line 11 (2 ∷ []) 16 0
    ∷ line 11 (4294967298 ∷ []) 9 0
    ∷ line 9 (2 ∷ []) 0 0
    ∷ line 5 (2 ∷ 4 ∷ 6 ∷ 8 ∷ 1 ∷ []) 13 0
    ∷ line 9 (2 ∷ []) 16 0
    ∷ line 5 (2 ∷ 4 ∷ 6 ∷ 4 ∷ 4 ∷ []) 0 3
    ∷ line 5 (2 ∷ 4 ∷ 6 ∷ 1 ∷ 1 ∷ []) 0 4
    ∷ line 5 (2 ∷ 4 ∷ 7 ∷ 1 ∷ 4 ∷ []) 10 0
    ∷ line 5 (2 ∷ 0 ∷ 6 ∷ 7 ∷ 2 ∷ []) 0 0
    ∷ line 3 (4294967296 ∷ 3 ∷ []) 8 0
    ∷ line 9 (3 ∷ []) 0 0
    ∷ line 5 (2 ∷ 1 ∷ 6 ∷ 0 ∷ 3 ∷ []) 0 0
    ∷ line 2 (2 ∷ 3 ∷ 17 ∷ 0 ∷ 1 ∷ []) 0 8
    ∷ line 5 (2 ∷ 1 ∷ 6 ∷ 2 ∷ 3 ∷ []) 0 0
    ∷ []) ≡ true
unfolding sound_along
seed6252 = refl
