-- The version that a caller can ask the library for, and compare with that of its header.
-- Assumes nothing.
use Rattle.std.specs.Prelude.{ℕ, ◌+◌, ◌*◌}

-- A call, a parameter list, a layout figure or an answer that there was has changed or gone.
abbrev pub major : ℕ
major = 4

-- Something was added, and what there was is the same.
abbrev pub minor : ℕ
minor = 1

-- Neither; the code is another.
abbrev pub patch : ℕ
patch = 0

-- One number, which is the larger the later the version is: 4.1.0 is 40100.
abbrev pub version : ℕ
version = major * 10000 + minor * 100 + patch
