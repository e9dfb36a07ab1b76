-- Made by `python3 tests/make_cases.py` from lists and answers of the second engine: edit that and not this file.
-- Each list of calls is that of its seed, of edition 2: the answers, and a sound session after each call.
use Rattle.std.specs.Prelude.{◌≡◌, refl, true, [], ◌∷◌}
use Rattle.rules.specs.Step.{fresh_session}
use Rattle.cases.specs.Along.{line, sound_along}

seed20036 : sound_along fresh_session (
    line 10 (2 ∷ []) 0 0
    ∷ line 11 (2 ∷ []) 0 0
    ∷ line 2 (2 ∷ 0 ∷ 17 ∷ 1 ∷ 1 ∷ []) 9 0
    ∷ line 8 (2 ∷ 1 ∷ []) 0 0
    ∷ line 8 (2 ∷ 1 ∷ []) 11 0
    ∷ line 13 (2 ∷ 2 ∷ []) 0 3
    ∷ line 13 (2 ∷ 1 ∷ []) 0 4
    ∷ line 127 (16521754040513256502 ∷ 4294967298 ∷ 0 ∷ 16383 ∷ 16383 ∷ []) 6 0
    ∷ line 5 (2 ∷ 3 ∷ 3 ∷ 0 ∷ 4 ∷ []) 0 1
    ∷ line 5 (2 ∷ 0 ∷ 0 ∷ 0 ∷ 3 ∷ []) 9 0
    ∷ line 6 (2 ∷ 3 ∷ 0 ∷ 0 ∷ []) 0 0
    ∷ line 9 (1 ∷ []) 0 0
    ∷ line 5 (2 ∷ 3 ∷ 0 ∷ 0 ∷ 3 ∷ []) 9 0
    ∷ line 5 (2 ∷ 0 ∷ 4 ∷ 0 ∷ 2 ∷ []) 0 0
    ∷ line 4 (2 ∷ 1 ∷ []) 0 5
    ∷ line 9 (0 ∷ []) 9 0
    ∷ line 6 (2 ∷ 4 ∷ 5 ∷ 0 ∷ []) 14 0
    ∷ line 3 (2 ∷ 3 ∷ []) 0 6
    ∷ line 5 (2 ∷ 3 ∷ 3 ∷ 0 ∷ 2 ∷ []) 0 2
    ∷ line 5 (2 ∷ 3 ∷ 3 ∷ 0 ∷ 2 ∷ []) 24 0
    ∷ line 5 (0 ∷ 5 ∷ 0 ∷ 0 ∷ 2 ∷ []) 8 0
    ∷ line 5 (2 ∷ 5 ∷ 4 ∷ 0 ∷ 4 ∷ []) 14 0
    ∷ line 9 (2 ∷ []) 0 0
    ∷ line 13 (2048 ∷ 0 ∷ []) 7 0
    ∷ line 4 (2 ∷ 0 ∷ []) 0 7
    ∷ []) ≡ true
unfolding sound_along
seed20036 = refl

seed5003 : sound_along fresh_session (
    line 10 (2 ∷ []) 0 0
    ∷ line 11 (2 ∷ []) 0 0
    ∷ line 9 (0 ∷ []) 9 0
    ∷ line 13 (2 ∷ 0 ∷ []) 7 0
    ∷ line 5 (2 ∷ 0 ∷ 0 ∷ 0 ∷ 12 ∷ []) 7 0
    ∷ line 10 (0 ∷ []) 9 0
    ∷ line 13 (2 ∷ 1 ∷ []) 0 3
    ∷ line 13 (2 ∷ 3 ∷ []) 0 4
    ∷ line 5 (2 ∷ 13 ∷ 0 ∷ 0 ∷ 3 ∷ []) 9 0
    ∷ line 6 (2 ∷ 4 ∷ 1 ∷ 0 ∷ []) 0 0
    ∷ line 3 (2 ∷ 2 ∷ []) 0 5
    ∷ line 5 (2 ∷ 4 ∷ 3 ∷ 0 ∷ 1 ∷ []) 0 1
    ∷ line 4 (2 ∷ 5 ∷ []) 7 0
    ∷ line 9 (1 ∷ []) 0 0
    ∷ line 13 (2 ∷ 0 ∷ []) 7 0
    ∷ line 4 (2 ∷ 0 ∷ []) 0 6
    ∷ line 9 (1 ∷ []) 16 0
    ∷ line 5 (2 ∷ 3 ∷ 3 ∷ 0 ∷ 4 ∷ []) 0 2
    ∷ line 5 (2 ∷ 1 ∷ 3 ∷ 11 ∷ 3 ∷ []) 12 0
    ∷ line 9 (2 ∷ []) 0 0
    ∷ line 5 (2 ∷ 4 ∷ 4 ∷ 0 ∷ 1 ∷ []) 0 3
    ∷ line 5 (2 ∷ 1 ∷ 4 ∷ 0 ∷ 2 ∷ []) 14 0
    ∷ line 13 (3314511822641311161 ∷ 17 ∷ []) 7 0
    ∷ line 8 (2 ∷ 4 ∷ []) 0 0
    ∷ line 9 (3 ∷ []) 0 0
    ∷ []) ≡ true
unfolding sound_along
seed5003 = refl

seed11783 : sound_along fresh_session (
    line 10 (2 ∷ []) 0 0
    ∷ line 5 (0 ∷ 1 ∷ 0 ∷ 0 ∷ 2 ∷ []) 8 0
    ∷ line 11 (2 ∷ []) 0 0
    ∷ line 13 (2 ∷ 1 ∷ []) 0 3
    ∷ line 3 (11 ∷ 4 ∷ []) 8 0
    ∷ line 8 (2 ∷ 2 ∷ []) 16 0
    ∷ line 13 (2 ∷ 2 ∷ []) 0 4
    ∷ line 5 (2 ∷ 1 ∷ 3 ∷ 0 ∷ 4 ∷ []) 0 0
    ∷ line 5 (2 ∷ 3 ∷ 3 ∷ 0 ∷ 3 ∷ []) 0 1
    ∷ line 3 (2 ∷ 3 ∷ []) 0 5
    ∷ line 9 (1 ∷ []) 0 0
    ∷ line 6 (2 ∷ 4 ∷ 1 ∷ 0 ∷ []) 0 0
    ∷ line 7 (2 ∷ 0 ∷ []) 9 0
    ∷ line 8 (2 ∷ 4 ∷ []) 0 0
    ∷ line 7 (2 ∷ 3 ∷ []) 10 0
    ∷ line 3 (2 ∷ 4 ∷ []) 0 6
    ∷ line 6 (2 ∷ 5 ∷ 1 ∷ 0 ∷ []) 0 0
    ∷ line 13 (2 ∷ 16 ∷ []) 0 7
    ∷ line 5 (2 ∷ 0 ∷ 0 ∷ 0 ∷ 1 ∷ []) 9 0
    ∷ line 3 (2 ∷ 3 ∷ []) 0 8
    ∷ line 13 (2 ∷ 3 ∷ []) 0 9
    ∷ line 5 (1 ∷ 5 ∷ 5 ∷ 1 ∷ 2 ∷ []) 8 0
    ∷ line 6 (2 ∷ 3 ∷ 1 ∷ 0 ∷ []) 11 0
    ∷ line 6 (2 ∷ 8 ∷ 6 ∷ 1 ∷ []) 10 0
    ∷ line 8 (2 ∷ 7 ∷ []) 0 0
    ∷ []) ≡ true
unfolding sound_along
seed11783 = refl

seed44253 : sound_along fresh_session (
    line 10 (0 ∷ []) 9 0
    ∷ line 10 (2 ∷ []) 0 0
    ∷ line 5 (0 ∷ 0 ∷ 0 ∷ 0 ∷ 0 ∷ []) 7 0
    ∷ line 5 (0 ∷ 0 ∷ 0 ∷ 0 ∷ 3 ∷ []) 8 0
    ∷ line 7 (15 ∷ 1 ∷ []) 8 0
    ∷ line 11 (2 ∷ []) 0 0
    ∷ line 13 (2 ∷ 3 ∷ []) 0 3
    ∷ line 5 (2 ∷ 3 ∷ 3 ∷ 1 ∷ 2 ∷ []) 12 0
    ∷ line 5 (2 ∷ 3 ∷ 7 ∷ 0 ∷ 1 ∷ []) 9 0
    ∷ line 13 (2 ∷ 2 ∷ []) 0 4
    ∷ line 13 (2 ∷ 1 ∷ []) 0 5
    ∷ line 5 (2 ∷ 3 ∷ 3 ∷ 0 ∷ 3 ∷ []) 0 1
    ∷ line 6 (2 ∷ 3 ∷ 1 ∷ 0 ∷ []) 0 0
    ∷ line 5 (2 ∷ 5 ∷ 4 ∷ 0 ∷ 2 ∷ []) 0 2
    ∷ line 13 (2 ∷ 17 ∷ []) 7 0
    ∷ line 9 (1 ∷ []) 0 0
    ∷ line 6 (2 ∷ 3 ∷ 1 ∷ 0 ∷ []) 14 0
    ∷ line 5 (2 ∷ 0 ∷ 3 ∷ 0 ∷ 3 ∷ []) 14 0
    ∷ line 6 (2 ∷ 5 ∷ 1 ∷ 0 ∷ []) 0 0
    ∷ line 3 (2 ∷ 4 ∷ []) 0 6
    ∷ line 9 (2 ∷ []) 0 0
    ∷ line 4 (2 ∷ 1 ∷ []) 0 7
    ∷ line 8 (9223372036854775808 ∷ 511 ∷ []) 8 0
    ∷ line 6 (2 ∷ 5 ∷ 7 ∷ 0 ∷ []) 11 0
    ∷ line 5 (2 ∷ 5 ∷ 6 ∷ 0 ∷ 2 ∷ []) 11 0
    ∷ []) ≡ true
unfolding sound_along
seed44253 = refl

seed11612 : sound_along fresh_session (
    line 10 (2 ∷ []) 0 0
    ∷ line 11 (2 ∷ []) 0 0
    ∷ line 13 (2 ∷ 1 ∷ []) 0 3
    ∷ line 6 (2 ∷ 3 ∷ 1 ∷ 0 ∷ []) 0 0
    ∷ line 5 (2 ∷ 3 ∷ 3 ∷ 0 ∷ 1 ∷ []) 0 1
    ∷ line 13 (2 ∷ 0 ∷ []) 7 0
    ∷ line 13 (2 ∷ 17 ∷ []) 7 0
    ∷ line 6 (2 ∷ 3 ∷ 1 ∷ 1 ∷ []) 12 0
    ∷ line 10 (2 ∷ []) 16 0
    ∷ line 6 (2 ∷ 0 ∷ 1 ∷ 0 ∷ []) 9 0
    ∷ line 5 (2 ∷ 3 ∷ 3 ∷ 0 ∷ 1 ∷ []) 24 0
    ∷ line 13 (0 ∷ 16 ∷ []) 8 0
    ∷ line 4294967296 (4294967296 ∷ 16384 ∷ 127 ∷ 15945634194001675395 ∷ 18 ∷ []) 6 0
    ∷ line 9 (1 ∷ []) 0 0
    ∷ line 4 (2 ∷ 0 ∷ []) 0 4
    ∷ line 1 (2 ∷ 3 ∷ []) 0 5
    ∷ line 3 (2 ∷ 2 ∷ []) 0 6
    ∷ line 2 (2 ∷ 5 ∷ 17 ∷ 0 ∷ 0 ∷ []) 0 7
    ∷ line 11 (2048 ∷ []) 9 0
    ∷ line 5 (2 ∷ 6 ∷ 7 ∷ 0 ∷ 2 ∷ []) 0 2
    ∷ line 5 (2 ∷ 1 ∷ 0 ∷ 1 ∷ 4 ∷ []) 9 0
    ∷ line 5 (2 ∷ 3 ∷ 7 ∷ 0 ∷ 1 ∷ []) 11 0
    ∷ line 6 (2 ∷ 6 ∷ 1 ∷ 0 ∷ []) 0 0
    ∷ line 9 (2 ∷ []) 0 0
    ∷ line 11 (6 ∷ []) 10 0
    ∷ []) ≡ true
unfolding sound_along
seed11612 = refl
