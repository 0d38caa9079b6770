-- The plans that lines are about: the values that a line names, and zeros for the other chip's.
-- Assumes nothing.
use Rattle.std.specs.Prelude.{ℕ, List, [], ◌∷◌, get_or, map}
use Rattle.std.specs.List.{range_with_len}
use Rattle.curves.specs.declared.Plan.{Plan}
use Rattle.curves.specs.Values.{no_slope, no_steps}

-- up to eight points: the given ones, and zeros behind them
abbrev pub in_eight : List ℕ → List ℕ
in_eight points = map (λ k. get_or points k 0) (range_with_len 0 8)

-- with the values of a slope and a point count
abbrev pub pointed : ℕ → ℕ → ℕ → List ℕ → ℕ → List ℕ → Plan
pointed chip table points temperatures critical duties =
    record { chip = chip; table = table; points = points; slope = record { temperatures = in_eight temperatures; critical = critical; duties = in_eight duties }; steps = no_steps }

-- with four points, as chips 1 and 4 have them
abbrev pub sloped : ℕ → ℕ → List ℕ → ℕ → List ℕ → Plan
sloped chip table temperatures critical duties = pointed chip table 0 temperatures critical duties

-- of chip 5
abbrev pub seven : ℕ → List ℕ → ℕ → List ℕ → Plan
seven table temperatures critical duties = pointed 5 table 7 temperatures critical duties

-- of chip 2
abbrev pub stepped : ℕ → List ℕ → List ℕ → Plan
stepped table bounds counts =
    record { chip = 2; table = table; points = 0; slope = no_slope; steps = record { bounds = bounds; counts = counts } }

-- the values of "The plan above", for any chip number and table
abbrev pub paper_for : ℕ → ℕ → Plan
paper_for chip table = sloped chip table (30 ∷ 40 ∷ 50 ∷ 55 ∷ []) 60 (140 ∷ 170 ∷ 200 ∷ 230 ∷ [])

-- the same with neither temperatures nor duties in order, and a point count
abbrev pub muddled_for : ℕ → ℕ → ℕ → Plan
muddled_for chip table points =
    pointed chip table points (40 ∷ 30 ∷ 50 ∷ 55 ∷ []) 60 (140 ∷ 170 ∷ 200 ∷ 199 ∷ [])

-- a plan of chip 2 whose bytes are all different
abbrev pub all_different : Plan
all_different = stepped 1 (60 ∷ 50 ∷ 40 ∷ 30 ∷ []) (0x0102 ∷ 0x0304 ∷ 0x0506 ∷ 0x0708 ∷ 0x090A ∷ [])

-- the values of the request's second plan of chip 4, for any table; T1 is -20
abbrev pub banked_for : ℕ → Plan
banked_for table = sloped 4 table (0xEC ∷ 0 ∷ 20 ∷ 50 ∷ []) 127 (0 ∷ 64 ∷ 128 ∷ 255 ∷ [])

-- the values of the request's plan of chip 5, for any table and point count
abbrev pub counted_for : ℕ → ℕ → Plan
counted_for table points =
    pointed 5 table points (30 ∷ 35 ∷ 40 ∷ 45 ∷ 50 ∷ 55 ∷ 60 ∷ []) 80 (8 ∷ 12 ∷ 16 ∷ 24 ∷ 32 ∷ 48 ∷ 56 ∷ [])

-- a plan of chip 5 whose bytes are all different, and none of them its register's at power-on
abbrev pub other_seven : ℕ → Plan
other_seven table = seven table (20 ∷ 33 ∷ 41 ∷ 47 ∷ 54 ∷ 59 ∷ 66 ∷ []) 75 (5 ∷ 9 ∷ 18 ∷ 27 ∷ 36 ∷ 45 ∷ 62 ∷ [])

-- plans that a check refuses, by number; each number behind the list has the last of them
abbrev pub refused_ones : List Plan
refused_ones =
    paper_for 0 3
    ∷ muddled_for 6 11 0
    ∷ paper_for 1 0
    ∷ paper_for 1 4
    ∷ muddled_for 1 4 0
    ∷ stepped 3 (60 ∷ 50 ∷ 40 ∷ 30 ∷ []) (0 ∷ 1 ∷ 2 ∷ 3 ∷ 4 ∷ [])
    ∷ paper_for 3 1
    ∷ paper_for 4 0
    ∷ muddled_for 4 11 0
    ∷ sloped 1 1 (30 ∷ 40 ∷ 40 ∷ 55 ∷ []) 60 (140 ∷ 170 ∷ 200 ∷ 230 ∷ [])
    ∷ sloped 1 2 (30 ∷ 40 ∷ 50 ∷ 55 ∷ []) 54 (140 ∷ 170 ∷ 200 ∷ 230 ∷ [])
    ∷ sloped 1 3 (30 ∷ 0x80 ∷ 50 ∷ 55 ∷ []) 60 (140 ∷ 139 ∷ 200 ∷ 230 ∷ [])
    ∷ stepped 1 (60 ∷ 50 ∷ 50 ∷ 30 ∷ []) (0 ∷ 1 ∷ 2 ∷ 3 ∷ 4 ∷ [])
    ∷ stepped 2 (60 ∷ 50 ∷ 40 ∷ 41 ∷ []) (0 ∷ 0x0200 ∷ 0x01FF ∷ 3 ∷ 4 ∷ [])
    ∷ sloped 4 4 (30 ∷ 40 ∷ 40 ∷ 55 ∷ []) 60 (140 ∷ 170 ∷ 200 ∷ 230 ∷ [])
    ∷ sloped 4 5 (30 ∷ 40 ∷ 50 ∷ 55 ∷ []) 54 (140 ∷ 170 ∷ 200 ∷ 230 ∷ [])
    ∷ sloped 4 10 (30 ∷ 0x80 ∷ 50 ∷ 55 ∷ []) 60 (140 ∷ 139 ∷ 200 ∷ 230 ∷ [])
    ∷ sloped 1 3 (30 ∷ 40 ∷ 50 ∷ 55 ∷ []) 60 (140 ∷ 170 ∷ 200 ∷ 199 ∷ [])
    ∷ sloped 4 10 (30 ∷ 40 ∷ 50 ∷ 55 ∷ []) 60 (140 ∷ 170 ∷ 200 ∷ 199 ∷ [])
    ∷ stepped 2 (60 ∷ 50 ∷ 40 ∷ 30 ∷ []) (0 ∷ 0x0200 ∷ 0x01FF ∷ 0x0300 ∷ 0xFFFF ∷ [])
    ∷ counted_for 0 7
    ∷ counted_for 7 6
    ∷ counted_for 1 6
    ∷ counted_for 6 8
    ∷ counted_for 2 0
    ∷ muddled_for 5 1 4
    ∷ seven 1 (30 ∷ 35 ∷ 40 ∷ 45 ∷ 50 ∷ 55 ∷ 55 ∷ []) 80 (8 ∷ 12 ∷ 16 ∷ 24 ∷ 32 ∷ 48 ∷ 56 ∷ [])
    ∷ seven 2 (30 ∷ 35 ∷ 40 ∷ 45 ∷ 50 ∷ 55 ∷ 60 ∷ []) 59 (8 ∷ 12 ∷ 16 ∷ 24 ∷ 32 ∷ 48 ∷ 56 ∷ [])
    ∷ seven 3 (0x80 ∷ 35 ∷ 40 ∷ 45 ∷ 50 ∷ 55 ∷ 60 ∷ []) 80 (8 ∷ 12 ∷ 16 ∷ 24 ∷ 32 ∷ 48 ∷ 56 ∷ [])
    ∷ seven 4 (30 ∷ 35 ∷ 40 ∷ 45 ∷ 50 ∷ 55 ∷ 60 ∷ []) 0x80 (8 ∷ 12 ∷ 16 ∷ 24 ∷ 32 ∷ 48 ∷ 56 ∷ [])
    ∷ seven 5 (30 ∷ 35 ∷ 40 ∷ 45 ∷ 50 ∷ 55 ∷ 54 ∷ []) 80 (8 ∷ 12 ∷ 16 ∷ 24 ∷ 32 ∷ 48 ∷ 47 ∷ [])
    ∷ seven 6 (30 ∷ 35 ∷ 40 ∷ 45 ∷ 50 ∷ 55 ∷ 60 ∷ []) 80 (8 ∷ 12 ∷ 16 ∷ 24 ∷ 32 ∷ 48 ∷ 47 ∷ [])
    ∷ []

abbrev pub refused_at : ℕ → Plan
refused_at k = get_or refused_ones k (seven 1 (30 ∷ 35 ∷ 40 ∷ 45 ∷ 50 ∷ 55 ∷ 60 ∷ []) 80 (8 ∷ 12 ∷ 16 ∷ 24 ∷ 32 ∷ 48 ∷ 64 ∷ []))
