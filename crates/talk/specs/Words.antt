-- The words of the answers, in lists of byte numbers, with the spaces around them.
use Rattle.std.specs.Prelude.{List, [], ◌∷◌, ℕ}

-- the line `new`
abbrev pub new_text : List ℕ
new_text = 110 ∷ 101 ∷ 119 ∷ 10 ∷ []

-- the line `opened`
abbrev pub opened_text : List ℕ
opened_text = 111 ∷ 112 ∷ 101 ∷ 110 ∷ 101 ∷ 100 ∷ 10 ∷ []

-- `report gates `
abbrev pub report_name : List ℕ
report_name = 114 ∷ 101 ∷ 112 ∷ 111 ∷ 114 ∷ 116 ∷ 32 ∷ 103 ∷ 97 ∷ 116 ∷ 101 ∷ 115 ∷ 32 ∷ []

-- ` xor `
abbrev pub xor_name : List ℕ
xor_name = 32 ∷ 120 ∷ 111 ∷ 114 ∷ 32 ∷ []

-- ` nonlinear `
abbrev pub nonlinear_name : List ℕ
nonlinear_name = 32 ∷ 110 ∷ 111 ∷ 110 ∷ 108 ∷ 105 ∷ 110 ∷ 101 ∷ 97 ∷ 114 ∷ 32 ∷ []

-- ` not `
abbrev pub not_name : List ℕ
not_name = 32 ∷ 110 ∷ 111 ∷ 116 ∷ 32 ∷ []

-- ` depth `
abbrev pub depth_name : List ℕ
depth_name = 32 ∷ 100 ∷ 101 ∷ 112 ∷ 116 ∷ 104 ∷ 32 ∷ []

-- ` anddepth `
abbrev pub and_depth_name : List ℕ
and_depth_name = 32 ∷ 97 ∷ 110 ∷ 100 ∷ 100 ∷ 101 ∷ 112 ∷ 116 ∷ 104 ∷ 32 ∷ []

-- `pass`
abbrev pub pass_name : List ℕ
pass_name = 112 ∷ 97 ∷ 115 ∷ 115 ∷ []

-- `wrong `
abbrev pub wrong_name : List ℕ
wrong_name = 119 ∷ 114 ∷ 111 ∷ 110 ∷ 103 ∷ 32 ∷ []

-- `over_gates`
abbrev pub over_gates_name : List ℕ
over_gates_name = 111 ∷ 118 ∷ 101 ∷ 114 ∷ 45 ∷ 103 ∷ 97 ∷ 116 ∷ 101 ∷ 115 ∷ []

-- `over_depth`
abbrev pub over_depth_name : List ℕ
over_depth_name = 111 ∷ 118 ∷ 101 ∷ 114 ∷ 45 ∷ 100 ∷ 101 ∷ 112 ∷ 116 ∷ 104 ∷ []

-- `over-anddepth`
abbrev pub over_and_depth_name : List ℕ
over_and_depth_name = 111 ∷ 118 ∷ 101 ∷ 114 ∷ 45 ∷ 97 ∷ 110 ∷ 100 ∷ 100 ∷ 101 ∷ 112 ∷ 116 ∷ 104 ∷ []

-- `reworked `
abbrev pub reworked_name : List ℕ
reworked_name = 114 ∷ 101 ∷ 119 ∷ 111 ∷ 114 ∷ 107 ∷ 101 ∷ 100 ∷ 32 ∷ []

-- `stored `
abbrev pub stored_name : List ℕ
stored_name = 115 ∷ 116 ∷ 111 ∷ 114 ∷ 101 ∷ 100 ∷ 32 ∷ []

-- `built `
abbrev pub built_name : List ℕ
built_name = 98 ∷ 117 ∷ 105 ∷ 108 ∷ 116 ∷ 32 ∷ []

-- `read `
abbrev pub read_name : List ℕ
read_name = 114 ∷ 101 ∷ 97 ∷ 100 ∷ 32 ∷ []

-- `held `
abbrev pub held_name : List ℕ
held_name = 104 ∷ 101 ∷ 108 ∷ 100 ∷ 32 ∷ []

-- `distance `
abbrev pub distance_name : List ℕ
distance_name = 100 ∷ 105 ∷ 115 ∷ 116 ∷ 97 ∷ 110 ∷ 99 ∷ 101 ∷ 32 ∷ []

-- `none`
abbrev pub none_name : List ℕ
none_name = 110 ∷ 111 ∷ 110 ∷ 101 ∷ []
