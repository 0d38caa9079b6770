-- Where the lines on a chip's own temperatures read them: where the chip's page says that they stand.
-- Assumes nothing.
use Rattle.std.specs.Prelude.{ℕ}
use Rattle.pages.specs.Rows.{Reading}
use Rattle.readings.specs.Sensors.{high_at}
use Rattle.figures_readings.specs.declared.sensors.Sensor.{Sensor}

abbrev pub sensor_of : Reading → ℕ → Sensor
sensor_of t k = record { width = t.width; high = high_at t k; low = t.low }
