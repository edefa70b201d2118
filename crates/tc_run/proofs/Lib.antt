mod CrashLemmas
mod EchoLemmas
mod HoldLemmas
mod KeptLemmas
mod RunLemmas
mod StopLemmas
mod TakeLemmas
